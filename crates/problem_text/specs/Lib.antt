pub mod Decimal
pub mod Form
pub mod Read
