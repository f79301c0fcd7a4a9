pub mod FromTheBack
mod Neighbours
mod LettersByWord
mod Same
mod SpeltAt
mod FoundIn
pub mod PlacesLaws
mod Filled
mod RuledOut
