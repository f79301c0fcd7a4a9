pub mod Return
pub mod Truth
