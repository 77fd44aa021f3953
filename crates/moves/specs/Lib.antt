pub mod Further
pub mod Turn
