-- The definitions of this crate that contracts cite. The rest of the crate is proof (proofs/Lib.antt).
pub mod Small
pub mod Over
pub mod Table
pub mod Little
pub mod Bytewise
