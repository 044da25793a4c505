pub mod Pebs
