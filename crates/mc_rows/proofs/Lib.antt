pub mod RisingSets
pub mod Words
pub mod Sets
pub mod Keeping
pub mod Lines
pub mod Sound
pub mod Printing
pub mod Within
