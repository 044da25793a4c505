pub mod Stops
pub mod Move
pub mod Theorem
