pub mod Sets
pub mod Parts
pub mod Reading
pub mod Constants
pub mod Places
pub mod Targets
pub mod Flows
pub mod Behind
