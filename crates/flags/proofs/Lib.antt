pub mod Placing
pub mod Flags
