pub mod Known
pub mod Nets
pub mod Places
pub mod Blocks
pub mod Reordered
pub mod Drivers
pub mod Flat
