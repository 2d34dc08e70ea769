pub mod Bounds
pub mod Rows
pub mod Ports
pub mod Tables
pub mod Refusals
pub mod Scopes
