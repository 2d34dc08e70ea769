pub mod Names
pub mod Assigned
pub mod Rule
