pub mod NumberSums
pub mod FlippedBits
