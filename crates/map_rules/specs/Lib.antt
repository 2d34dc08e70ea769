pub mod Case
pub mod Names
pub mod Expressions
pub mod Inputs
pub mod Mapped
pub mod Accepted
pub mod Worked
