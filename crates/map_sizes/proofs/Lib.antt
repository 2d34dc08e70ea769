pub mod Told
pub mod Unchanged
pub mod Agreed
