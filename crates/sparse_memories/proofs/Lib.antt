pub mod Trees
pub mod Storing
pub mod Comparing
pub mod Finding
pub mod CopyLaws
