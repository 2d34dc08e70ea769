pub mod Mapped
pub mod Runs
pub mod Broken
pub mod Meaning
pub mod View
