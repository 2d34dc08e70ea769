pub mod Shapes
pub mod Memories
pub mod Named
pub mod Nets
pub mod Assembled
