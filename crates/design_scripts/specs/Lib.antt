pub mod Names
pub mod Simulation
