pub mod Lists
pub mod Keeping
pub mod Measured
pub mod Sound
pub mod Fits
pub mod NoLimits
pub mod Printing
