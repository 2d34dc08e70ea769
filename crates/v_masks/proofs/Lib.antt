pub mod Bits
pub mod Plain
