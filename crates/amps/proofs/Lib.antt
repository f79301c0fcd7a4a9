-- Theorems about the contracts of the amps. None needs believing.
-- the paper's amps: exactly one n
pub mod Greatest
pub mod Exact
pub mod Asked
mod RuledOut
