pub mod OneModule
pub mod Turns
