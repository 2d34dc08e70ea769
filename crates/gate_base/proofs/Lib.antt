pub mod Following
pub mod Copying
pub mod Satisfying
pub mod Questions
