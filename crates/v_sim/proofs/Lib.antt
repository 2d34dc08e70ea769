pub mod Bits
pub mod Lists
mod Values
pub mod Settings
pub mod Named
pub mod First
mod Fed
mod Shown
mod Step
mod Told
pub mod Sorted
mod Placing
mod Turn
mod Answered
