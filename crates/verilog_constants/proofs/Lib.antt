pub mod Digits
pub mod Nets
pub mod Names
pub mod Expressions
pub mod Modules
