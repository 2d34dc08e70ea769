pub mod Words
pub mod Targets
pub mod Statements
pub mod View
pub mod Flat
