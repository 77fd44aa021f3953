pub mod Word
pub mod Filling
