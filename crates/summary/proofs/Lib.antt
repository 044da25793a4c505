pub mod Ends
pub mod Reports
