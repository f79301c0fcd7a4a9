pub mod Kinds
pub mod Short
