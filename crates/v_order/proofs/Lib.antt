pub mod Growing
mod Each
pub mod Driven
