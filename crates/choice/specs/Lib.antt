-- The definitions that contracts here cite. Assumes nothing.
pub mod Keyed
pub mod Chain
pub mod Marking
