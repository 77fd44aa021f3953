pub mod Products
pub mod Choices
pub mod Selecting
