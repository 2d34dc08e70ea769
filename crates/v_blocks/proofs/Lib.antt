pub mod Statements
pub mod Blocks
