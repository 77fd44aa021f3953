pub mod Mask
pub mod Invert
pub mod Next
pub mod Entry
pub mod PointSet
pub mod WordMask
pub mod Members
