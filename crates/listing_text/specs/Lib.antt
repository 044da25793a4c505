pub mod Text
pub mod Render
pub mod Written
