pub mod Below
pub mod Places
pub mod Walk
pub mod Added
pub mod Views
pub mod Whole
