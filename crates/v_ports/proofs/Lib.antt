pub mod Directions
pub mod Differing
pub mod Whole
pub mod Names
pub mod Placed
