pub mod Fields
pub mod Table
pub mod Ec
pub mod Vid
pub mod Stores
