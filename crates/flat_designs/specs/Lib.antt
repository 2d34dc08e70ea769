pub mod Flat
pub mod Laws
pub mod Depending
pub mod Edge
