pub mod Declarations
pub mod Levels
pub mod Names
