pub mod Asked
pub mod Flaws
pub mod Known
pub mod Told
pub mod Whole
pub mod Resets
