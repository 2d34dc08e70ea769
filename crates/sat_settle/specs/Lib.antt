pub mod Refutation
pub mod Settled
