pub mod Changes
pub mod Choosing
pub mod Fitting
pub mod Judging
pub mod Laws
pub mod Rounds
