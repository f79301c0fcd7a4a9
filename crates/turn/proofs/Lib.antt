-- The theorems of the crate, for the crates above.
-- equations between numbers; the numbers are a ring
pub mod Form
pub mod Ring
pub mod TRing
-- turns, the conjugate and R + jX, what cancels
pub mod Powers
pub mod Conj
pub mod Cancel
-- bounds
pub mod Within
pub mod Operands
mod Products
-- wrong answers, ruled out by a contract
pub mod Told
mod RuledOut
