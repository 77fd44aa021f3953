pub mod Rows
pub mod Flag
