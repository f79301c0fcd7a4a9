pub mod Decoded
mod RuledOut
