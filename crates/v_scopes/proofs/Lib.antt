pub mod Parts
mod Judged
mod Clocks
mod Listed
pub mod Joined
mod Tabled
pub mod Objects
mod Empty
mod Chosen
pub mod OneClock
