pub mod Write
pub mod Job
pub mod Course
pub mod Relocation
pub mod Outcomes
pub mod Torn
