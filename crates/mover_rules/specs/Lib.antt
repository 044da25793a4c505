pub mod Headers
pub mod Begin
pub mod Write
pub mod Step
pub mod Running
