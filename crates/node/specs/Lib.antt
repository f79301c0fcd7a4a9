pub mod Node
pub mod Tables
