pub mod Locality
pub mod Steps
pub mod Scope
pub mod Leaves
pub mod Free
pub mod Memories
pub mod Still
