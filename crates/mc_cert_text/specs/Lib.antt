pub mod Certs
pub mod Tables
pub mod Value
pub mod Kinds
pub mod Kept
pub mod Canonical
pub mod Holding
pub mod Samples
