pub mod Rows
pub mod Judge
pub mod Kept
pub mod Written
pub mod Counted
