pub mod Climb
pub mod Shares
mod RuledOut
