pub mod Tables
pub mod Good
