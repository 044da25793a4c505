pub mod Slip
pub mod Table
pub mod Blocks
pub mod Build
pub mod Filling
