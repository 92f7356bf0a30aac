pub mod Documents
pub mod Places
pub mod Samples
pub mod Second
pub mod Sections
pub mod Turns
