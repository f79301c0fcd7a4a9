pub mod Outcomes
pub mod Laws
mod RuledOut
