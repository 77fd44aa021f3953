pub mod Word
pub mod Makers
pub mod Gather
pub mod Leaving
