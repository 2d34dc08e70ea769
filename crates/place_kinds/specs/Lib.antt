pub mod Places
pub mod Known
pub mod Blocks
pub mod Drivers
pub mod Flat
