pub mod Ids
pub mod Within
pub mod Parts
pub mod Named
pub mod Keeping
