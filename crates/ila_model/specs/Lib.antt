pub mod Scope
pub mod Sorted
pub mod Meaning
pub mod Model
