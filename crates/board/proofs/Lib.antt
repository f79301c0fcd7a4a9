mod Small
mod Nothing
mod Rows
mod Sums
mod RuledOut
