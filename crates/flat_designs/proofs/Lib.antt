pub mod Known
pub mod Settled
pub mod Driven
pub mod Depending
pub mod Edge
