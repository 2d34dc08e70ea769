pub mod Copies
pub mod Designs
pub mod Drivers
pub mod OneModule
pub mod Turns
