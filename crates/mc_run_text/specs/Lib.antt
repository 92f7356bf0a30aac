pub mod Reduced
pub mod Canonical
pub mod Runs
