pub mod Names
pub mod Solid
pub mod Accepted
