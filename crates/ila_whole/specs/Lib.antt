pub mod Whole
pub mod Shaped
