pub mod Shape
pub mod Meaning
pub mod Replay
