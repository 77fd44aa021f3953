pub mod Distance
pub mod Formed
