pub mod Narrowing
pub mod Splitting
pub mod Filling
