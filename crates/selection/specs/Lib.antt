pub mod Product
pub mod Choose
pub mod Select
pub mod Answer
