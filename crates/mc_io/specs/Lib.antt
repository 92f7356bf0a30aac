pub mod Faults
pub mod Told
pub mod Calls
pub mod Plan
pub mod Memory
pub mod Honest
pub mod Whole
