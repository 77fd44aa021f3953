pub mod Decimal
pub mod Numbers
pub mod Transitions
pub mod Tables
pub mod Forms
pub mod Listing
pub mod Readings
pub mod Examples
