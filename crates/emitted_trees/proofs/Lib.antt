pub mod Rows
pub mod Leaves
pub mod Gathered
pub mod Held
pub mod Loops
pub mod Decodes
pub mod Written
pub mod Whole
