pub mod Asked
mod InRange
mod RuledOut
