pub mod Grounded
pub mod Turns
