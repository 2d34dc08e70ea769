pub mod Instructions
pub mod Runs
pub mod Terms
pub mod Written
pub mod Widths
pub mod Settled
pub mod Simulations
