-- The definitions that contracts here cite. Assumes nothing.
pub mod Layout
