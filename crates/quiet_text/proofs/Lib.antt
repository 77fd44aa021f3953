pub mod Solving
pub mod Answering
pub mod Never
pub mod Classical
pub mod Reading
