pub mod Answers
pub mod Layers
pub mod Rows
