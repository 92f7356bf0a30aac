pub mod Printing
pub mod OwnRows
pub mod SoundBounds
pub mod Sound
pub mod NoLimits
pub mod CleanRows
pub mod Fits
