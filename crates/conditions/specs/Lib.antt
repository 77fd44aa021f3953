pub mod Rows
pub mod Look
pub mod Answer
