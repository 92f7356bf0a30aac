pub mod Canonical
pub mod Written
pub mod Roles
pub mod Value
pub mod Judge
pub mod Kept
pub mod Samples
