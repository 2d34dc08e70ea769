pub mod Lists
pub mod Memories
pub mod Ready
pub mod Shapely
pub mod Spelled
pub mod Dotted
pub mod Texts
