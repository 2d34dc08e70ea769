pub mod Script
pub mod Simulation
