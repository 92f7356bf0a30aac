pub mod EntriesInPlace
pub mod ProductsMade
