pub mod Growing
pub mod Chaining
pub mod Numbers
pub mod Constants
pub mod Moving
pub mod Multiplying
pub mod Signing
