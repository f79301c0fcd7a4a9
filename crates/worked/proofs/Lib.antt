pub mod Equation
mod Four
mod RuledOut
