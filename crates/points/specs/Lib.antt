pub mod PointWord
pub mod Walk
pub mod Union
