pub mod Codes
pub mod Each
pub mod Listed
pub mod Ready
