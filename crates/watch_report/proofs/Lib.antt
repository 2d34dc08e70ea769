pub mod Runs
pub mod Refusals
