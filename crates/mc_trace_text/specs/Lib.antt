pub mod Words
pub mod Traces
pub mod Kept
pub mod Canonical
pub mod Samples
