pub mod Views
pub mod Chosen
pub mod Faces
pub mod Whole
pub mod Contents
pub mod Theorem
pub mod Bench
