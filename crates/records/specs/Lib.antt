pub mod Judging
pub mod Rules
