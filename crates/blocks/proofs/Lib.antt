pub mod Places
pub mod Storing
