pub mod Outside
pub mod Gathered
