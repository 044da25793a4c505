-- The laws that proofs here cite. Assumes nothing.
pub mod Rules
pub mod Units
pub mod Whole
