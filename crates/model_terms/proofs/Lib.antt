pub mod Choosing
pub mod Pointing
pub mod Turning
pub mod Programming
pub mod Cycling
pub mod Starting
pub mod Telling
pub mod Counting
