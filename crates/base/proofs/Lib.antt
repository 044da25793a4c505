pub mod Lists
pub mod Below
pub mod Answers
pub mod Rows
pub mod Stores
pub mod Highest
