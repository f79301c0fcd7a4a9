pub mod Number
pub mod Bounds
