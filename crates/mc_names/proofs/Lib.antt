pub mod StoredNames
pub mod Numbered
pub mod FreshNames
