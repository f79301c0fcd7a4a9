pub mod Named
pub mod Zero
