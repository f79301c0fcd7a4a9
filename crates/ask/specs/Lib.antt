pub mod Ask
pub mod Question
pub mod Steps
