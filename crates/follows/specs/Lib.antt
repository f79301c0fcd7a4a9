pub mod Capitals
pub mod Forgotten
