pub mod Facts
pub mod Sides
