pub mod Script
pub mod Ending
pub mod View
