pub mod Faulted
pub mod Numbers
pub mod Put
