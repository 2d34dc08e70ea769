pub mod Meaning
pub mod Amount
