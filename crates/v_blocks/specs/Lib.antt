pub mod Arms
pub mod Blocks
