-- a network and a label that nothing refuses; each return of `earth` is what the paper says, and one answer alone is
mod Asked
mod Answers
pub mod One
-- 02, R-4: the answer is true
pub mod Truth
mod RuledOut
