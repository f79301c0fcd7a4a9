pub mod Writes
pub mod Pens
pub mod Decimal
mod Signed
pub mod Stored
pub mod Back
mod Bits
mod Pieces
pub mod Told
mod RuledOut
