pub mod Summing
pub mod Declaring
pub mod Once
