pub mod Loops
pub mod Drivers
pub mod Turns
