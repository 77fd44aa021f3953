pub mod Sorting
pub mod Writing
pub mod Answering
