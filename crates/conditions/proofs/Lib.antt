pub mod Covering
pub mod Looks
pub mod Judging
