-- 01's printed example
pub mod Example
mod Tops
mod Lying
-- no text is longer
pub mod Most
-- 02, R-3: typed in another case, the same text but for its letters' case
pub mod Retyped
mod Whole
