pub mod Settings
pub mod Exact
pub mod Sources
pub mod Gates
pub mod Limits
pub mod Tables
pub mod Reports
pub mod Branches
