mod BoardLines
pub mod EarthLine
mod Lines
pub mod Unspaced
mod RuledOut
