mod Refusals
pub mod Notes
