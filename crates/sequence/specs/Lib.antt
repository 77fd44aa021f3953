pub mod Sorted
pub mod Words
