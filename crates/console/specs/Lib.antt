pub mod Counts
pub mod Limits
