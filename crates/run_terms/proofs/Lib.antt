pub mod Numbers
pub mod Values
pub mod Copied
pub mod Cycles
