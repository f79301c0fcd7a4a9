-- The paper's figures: files written out, rows that say equations, the tables. None needs believing.
pub mod Typed
pub mod Compare
pub mod Calls
pub mod Figures
pub mod UnearthedFigures
pub mod CaseFigures
pub mod WriteFigures
pub mod ReturnFigures
pub mod ForgottenFigures
-- rules and their numbers
pub mod Rules
-- what tables of wrong answers say of impedances and sequences
pub mod Told
mod RuledOut
