pub mod Names
pub mod Worth
pub mod Leaves
pub mod Unrolled
