pub mod Written
pub mod Shape
pub mod Keys
pub mod Names
pub mod Scope
pub mod Rules
pub mod Meaning
