pub mod Boards
pub mod Earth
pub mod Lines
pub mod Name
