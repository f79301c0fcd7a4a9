pub mod Case
pub mod Layout
pub mod Said
