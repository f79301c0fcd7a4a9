pub mod Carried
pub mod Marked
pub mod Share
