pub mod Laws
pub mod Compilations
