-- The proof of demand 3 (docs/DEMAND-3.md tells it in words).
-- what acceptance gives of a question
mod Fair
-- numbers that are there or not, and sums of them; fractions over one divisor and another; larger values over a larger divisor
mod Sums
mod Fractions
mod Times
-- Kirchhoff's and Ohm's laws in any tree of places
mod Flows
mod Drops
-- so in the tree of the boards (sequences 1 and 2) and that of the parts (zero sequence) they leave the fault's current and the lift open, and nothing else
mod Form
mod Chains
mod JoinedBoards
mod ZeroCurrents
mod ZeroVoltages
mod Formed
mod Alike
-- the fault's connection: the row and the lift of a fault, the conditions as the solver's equations, kept by the answers, forcing them
mod Lift
mod Conditions
mod Kept
mod Forced
-- the buffer, taken back
mod Back
mod Reading
-- the theorem
pub mod Demand
pub mod Seen
-- R-2: why zero W0 was wrong there, and what the crew sees
pub mod Wrong
pub mod Crew
-- the premise is needed, and so is `blocked`
pub mod Needed
pub mod Unblocked
