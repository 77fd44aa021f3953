pub mod Packed
pub mod Told
