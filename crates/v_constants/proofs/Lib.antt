pub mod Alike
pub mod Ranges
mod Narrow
mod Judged
mod Entered
mod Gathered
mod Lists
