pub mod Members
pub mod Numberings
pub mod Parts
pub mod Verdicts
pub mod Walks
