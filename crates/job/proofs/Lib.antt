-- The laws of jobs, and of the PEBs that they write. Assumes nothing.
pub mod Writes
pub mod Runs
pub mod Finish
pub mod Calls
pub mod Blocks
pub mod Seen
pub mod Relocated
pub mod Stage
pub mod Outcomes
