pub mod Numbers
pub mod Parts
pub mod Ladders
pub mod Listed
