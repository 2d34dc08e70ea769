pub mod Steps
pub mod Memory
pub mod Terms
pub mod Sorts
pub mod Changed
pub mod Links
pub mod Shapes
pub mod Cycles
