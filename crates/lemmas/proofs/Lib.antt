-- The tools of proof, for every crate above: no word of electricity. docs/PROVING.md shows how each is used.
-- tests made of two
pub mod Bools
-- whole numbers, and equations between polynomials
pub mod Integers
pub mod Ring
pub mod Solver
pub mod Solve
pub mod Cancel
-- how far from 0, and the signed words of the machine
pub mod Distance
pub mod Words
-- numbers, their bytes and bits, and what is done to all bytes of a word at once
pub mod Little
pub mod Bitwise
pub mod Bytewise
-- tables, and lent parts of a buffer
pub mod Table
pub mod Over
-- wrong answers, ruled out by a contract
pub mod RuledOut
