pub mod Improves
pub mod Laws
pub mod Nearer
pub mod OnePass
pub mod Parts
pub mod Passing
pub mod Settled
pub mod UsesLeft
