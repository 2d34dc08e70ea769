pub mod Ending
pub mod View
