-- the records of a network's bytes
pub mod Records
-- tables of 256 places
pub mod Tables
-- where zero sequence starts, and whether there is an earth return
pub mod Starts
-- nodes told apart
pub mod Told
mod RuledOut
