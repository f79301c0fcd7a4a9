pub mod Said
pub mod Shown
