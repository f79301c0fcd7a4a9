-- Theorems: "That every number fits is proved". None needs believing.
-- the numbers R + jX with a bound
pub mod Plane
-- how large the paper's numbers are, what the operations ask of them, and that the answer's numbers fit
pub mod Sizes
pub mod Needs
pub mod Fits
