pub mod ColumnBits
pub mod Ones
pub mod Words
pub mod Relating
