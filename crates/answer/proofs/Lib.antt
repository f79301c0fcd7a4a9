pub mod Whole
pub mod Boards
