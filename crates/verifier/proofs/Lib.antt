pub mod Judging
pub mod Verifying
