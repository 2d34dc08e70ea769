pub mod Ending
pub mod Seen
