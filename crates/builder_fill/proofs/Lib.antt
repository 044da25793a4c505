pub mod Stores
pub mod Lebs
pub mod Filled
