pub mod BitRing
pub mod Laws
pub mod Matrices
