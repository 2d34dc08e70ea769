pub mod Table
pub mod Registers
pub mod Bits
pub mod Parts
pub mod Seen
pub mod Design
