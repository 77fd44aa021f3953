pub mod FurtherWord
pub mod Movement
pub mod Agree
