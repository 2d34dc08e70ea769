pub mod Programs
pub mod Commas
