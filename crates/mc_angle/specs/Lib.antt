pub mod Number
pub mod Angle
