mod Behind
mod Zero
mod Record
mod Outcomes
mod Reading
mod Turn
pub mod Said
mod RuledOut
