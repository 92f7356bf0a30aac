pub mod Checks
pub mod Derivations
pub mod Effort
pub mod Following
pub mod Laws
pub mod Useful
