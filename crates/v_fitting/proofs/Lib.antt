pub mod Items
pub mod Wires
pub mod Memories
pub mod Targets
mod Modules
