-- the theorems of R-1, and what they rest on: fields, the file, the two refusals, and a network written again
pub mod Bytes
pub mod File
mod Shown
pub mod Alike
pub mod Again
pub mod Theorems
-- what its type says of a board
pub mod InType
-- the code: the boards laid down on a page, the file judged there, its answers
mod Laid
mod Judged
-- answers that it rules out
mod RuledOut
