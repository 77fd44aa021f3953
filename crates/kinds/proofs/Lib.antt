pub mod Coded
pub mod Failures
