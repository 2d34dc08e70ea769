pub mod Sorting
pub mod Forming
pub mod Comparing
