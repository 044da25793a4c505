pub mod Xor
pub mod Laws
pub mod LookUp
pub mod Sparse
pub mod Pending
pub mod Folding
