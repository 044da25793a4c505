-- The laws that proofs here and above cite. Assumes nothing.
pub mod Words
pub mod Counts
pub mod Finds
pub mod Faces
pub mod Misfits
pub mod States
