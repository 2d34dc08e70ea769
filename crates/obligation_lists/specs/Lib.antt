pub mod Claims
pub mod Counts
pub mod Within
pub mod Growth
pub mod Parts
