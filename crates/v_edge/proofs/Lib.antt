pub mod Waiting
pub mod Updated
