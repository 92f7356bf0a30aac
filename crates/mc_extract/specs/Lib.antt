pub mod Laws
pub mod Rounds
pub mod Finder
pub mod Chains
pub mod Answers
pub mod Extracted
pub mod Rows
pub mod Written
