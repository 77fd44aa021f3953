pub mod Ahead
pub mod Phases
pub mod Shows
