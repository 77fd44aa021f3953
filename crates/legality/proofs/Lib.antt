pub mod Selecting
pub mod Illegal
