mod Compared
pub mod Laws
pub mod Tested
mod RuledOut
