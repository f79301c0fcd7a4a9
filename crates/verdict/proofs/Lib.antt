pub mod Parts
pub mod Within
mod RuledOut
