pub mod Numbers
pub mod Keys
pub mod Headers
pub mod Fields
pub mod Accepted
pub mod Pebs
pub mod Planned
pub mod Numbered
