pub mod Fitting
pub mod Constants
pub mod Objects
pub mod Within
pub mod Widths
pub mod Told
