pub mod Finite
pub mod Agreement
pub mod Unique
