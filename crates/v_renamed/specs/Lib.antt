pub mod NewNames
pub mod Copies
pub mod Listed
