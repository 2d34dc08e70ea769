pub mod Cycles
pub mod Unique
