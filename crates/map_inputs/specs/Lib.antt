pub mod Bits
pub mod Spans
pub mod Laws
