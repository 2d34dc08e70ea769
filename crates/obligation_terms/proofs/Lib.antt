pub mod Holding
pub mod Stepping
pub mod Resting
pub mod Beginning
pub mod Chaining
pub mod Standing
