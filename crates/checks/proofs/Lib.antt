pub mod Checks
pub mod HandedOn
