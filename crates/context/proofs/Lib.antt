pub mod PlaneWord
pub mod Values
pub mod Exchange
pub mod Reading
pub mod Wide
