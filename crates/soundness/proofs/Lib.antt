pub mod FactLists
pub mod Shifted
pub mod Extracted
pub mod Refined
