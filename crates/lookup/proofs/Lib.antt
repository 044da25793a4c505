pub mod Laws
pub mod Reported
