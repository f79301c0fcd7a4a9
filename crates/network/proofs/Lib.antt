pub mod Head
pub mod Whole
pub mod Kept
mod RuledOut
