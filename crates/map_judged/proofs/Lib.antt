pub mod Gathered
pub mod First
pub mod Standing
pub mod Telling
pub mod Resets
pub mod Whole
