pub mod Rows
pub mod Claimed
pub mod Growing
