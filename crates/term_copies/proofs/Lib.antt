pub mod Extending
pub mod Copying
