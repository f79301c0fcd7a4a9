pub mod Passing
pub mod Posed
pub mod Ready
