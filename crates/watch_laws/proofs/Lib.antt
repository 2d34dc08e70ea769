pub mod Idle
pub mod Values
pub mod Deciding
pub mod Refining
pub mod Watching
