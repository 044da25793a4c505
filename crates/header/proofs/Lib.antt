pub mod Laws
pub mod Writes
pub mod RoundTrip
