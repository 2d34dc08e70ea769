pub mod Texts
pub mod Interface
pub mod Connections
pub mod Outputs
pub mod Connected
pub mod Parameters
pub mod Rules
