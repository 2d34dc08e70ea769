pub mod Bits
pub mod Spread
pub mod Claims
pub mod Gathered
pub mod Found
pub mod Decided
