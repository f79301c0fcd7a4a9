pub mod Decimal
pub mod Word
pub mod Wrote
pub mod Writing
