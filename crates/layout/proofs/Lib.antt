-- The laws that proofs here and above cite. Assumes nothing.
pub mod Places
pub mod Contents
