pub mod Lent
pub mod Structs
