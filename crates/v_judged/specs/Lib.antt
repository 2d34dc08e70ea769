pub mod Refusal
pub mod First
pub mod Rules
pub mod Standing
pub mod Sharing
pub mod Spots
