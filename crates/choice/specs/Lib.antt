pub mod First
pub mod Keep
