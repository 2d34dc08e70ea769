pub mod Tree
pub mod Source
pub mod Chain
