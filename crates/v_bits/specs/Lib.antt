pub mod Moving
pub mod Writing
