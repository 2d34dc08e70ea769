pub mod Sound
pub mod Valued
pub mod Existing
pub mod Breaking
pub mod Decided
pub mod Commands
