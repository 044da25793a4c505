pub mod Records
pub mod RoundTrip
