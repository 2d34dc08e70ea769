pub mod Spans
pub mod Memories
pub mod Mismatch
