pub mod RoundTrip
pub mod OnPage
pub mod Told
