pub mod Text
pub mod Named
