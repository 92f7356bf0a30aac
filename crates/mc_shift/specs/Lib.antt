pub mod Laws
pub mod Shifted
pub mod Shifts
