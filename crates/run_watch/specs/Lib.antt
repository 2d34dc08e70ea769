pub mod View
pub mod Comparing
pub mod Failing
pub mod Watch
pub mod Turns
pub mod Texts
