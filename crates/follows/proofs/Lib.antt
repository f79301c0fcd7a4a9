-- What follows from the paper's definitions, for the crates above. None needs believing.
-- impedances, lists of places
pub mod Impedance
pub mod Lists
pub mod Paths
-- bytes one behind the other
pub mod Spelt
-- the place of a label
pub mod Places
-- the chain and the part, record by record
pub mod Chain
pub mod Parts
pub mod Before
pub mod Next
pub mod Shared
-- being in one part is being linked by records of kinds 2 and 3
pub mod Joined
-- the kind table, row by row
pub mod KindTable
-- what the tests of the refusal table give
pub mod Rows
pub mod Numbered
pub mod Fit
pub mod Sound
pub mod Accepted
-- 02, R-6: the table with its row 21, and without it
pub mod Without
pub mod Forgotten
-- the numbers R + jX, bare
pub mod Flat
-- the fault table: its rows, D as a natural number, the divisor
pub mod Row
pub mod Square
pub mod Divisor
-- where the answer's numbers lie
pub mod Laid
-- all that acceptance gives of a question
pub mod Given
-- 02, R-4: a board's chain up to the head of its part, and what the head is; boards that differ off a chain
pub mod UpToHead
pub mod OffChain
-- 02, R-3: small letters and capitals; boards with their labels in capitals; bytes typed in another case
pub mod Case
pub mod Upper
pub mod Retyped
