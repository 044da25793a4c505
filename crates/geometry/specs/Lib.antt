pub mod Slip
pub mod Geometry
pub mod Image
pub mod Placed
