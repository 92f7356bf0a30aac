pub mod Generator
pub mod Parts
