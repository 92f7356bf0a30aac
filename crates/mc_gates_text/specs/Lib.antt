pub mod Words
pub mod Roles
pub mod Value
pub mod Judge
pub mod Canonical
pub mod Kept
pub mod Samples
