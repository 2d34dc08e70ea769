pub mod Knowing
pub mod Constants
pub mod Likeness
pub mod Guarding
