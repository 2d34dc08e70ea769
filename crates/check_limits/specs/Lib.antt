pub mod Limits
pub mod View
pub mod Sources
pub mod Unique
