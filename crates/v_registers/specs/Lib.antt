pub mod Once
pub mod Placed
pub mod Groups
pub mod Masks
pub mod Registers
