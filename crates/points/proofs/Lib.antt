pub mod Masked
pub mod Stepping
pub mod Turning
pub mod Looking
pub mod Agree
pub mod Members
pub mod Uniting
pub mod Without
