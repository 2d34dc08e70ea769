pub mod Within
pub mod Segments
pub mod Dotted
