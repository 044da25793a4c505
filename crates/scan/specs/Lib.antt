pub mod Totals
pub mod Pass
