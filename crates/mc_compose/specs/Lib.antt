pub mod Composed
pub mod Limits
pub mod Sums
pub mod Maps
pub mod Laws
pub mod Placing
pub mod Products
