pub mod View
pub mod Class
pub mod Scan
pub mod Choice
pub mod Volumes
pub mod Report
pub mod Attach
pub mod Scratch
