pub mod Written
pub mod Shape
pub mod Keys
pub mod Meaning
