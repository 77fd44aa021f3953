pub mod Output
pub mod Put
