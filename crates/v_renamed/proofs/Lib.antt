pub mod Turns
pub mod Arms
pub mod Statements
pub mod Outputs
