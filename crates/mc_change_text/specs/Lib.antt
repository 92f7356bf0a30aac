pub mod Changes
pub mod Kinds
pub mod Kept
pub mod Canonical
pub mod Samples
