pub mod OnePeb
pub mod Passes
