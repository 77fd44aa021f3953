pub mod Finding
pub mod Phase
pub mod Shows
