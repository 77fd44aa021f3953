pub mod Growing
pub mod Outcome
pub mod Raising
