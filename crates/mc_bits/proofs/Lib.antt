pub mod BitsFrom
pub mod BitsOfWords
pub mod RowsByBits
pub mod TwoRows
