-- The laws that proofs here cite. Assumes nothing.
pub mod Begins
pub mod Attached
