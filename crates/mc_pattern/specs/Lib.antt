pub mod Commands
pub mod Typed
pub mod Rules
pub mod Patterns
pub mod Laws
pub mod Changes
