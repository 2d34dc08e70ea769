pub mod Parts
pub mod Modules
pub mod OneModule
