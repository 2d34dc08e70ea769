pub mod Nodes
pub mod Memories
pub mod Copying
