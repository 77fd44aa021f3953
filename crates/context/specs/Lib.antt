pub mod Planes
pub mod Context
