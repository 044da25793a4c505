pub mod Book
pub mod Premise
pub mod Claim
