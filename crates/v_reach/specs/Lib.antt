pub mod Coming
pub mod Marking
