pub mod Faults
pub mod Ready
