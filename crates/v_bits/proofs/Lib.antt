pub mod Places
pub mod Shifting
pub mod Placing
pub mod AtIndexes
pub mod Replacing
pub mod Written
pub mod Stores
