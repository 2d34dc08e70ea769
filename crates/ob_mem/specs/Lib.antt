pub mod Words
pub mod Spread
pub mod Rows
pub mod Images
pub mod Size
