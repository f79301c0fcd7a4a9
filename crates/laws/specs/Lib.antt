pub mod Values
pub mod Connection
pub mod Laws
pub mod Seen
pub mod Demand
