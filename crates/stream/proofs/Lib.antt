pub mod Marks
pub mod Boards
pub mod Pieces
pub mod Back
mod RuledOut
