pub mod Exists
pub mod One
pub mod Runs
pub mod Loops
