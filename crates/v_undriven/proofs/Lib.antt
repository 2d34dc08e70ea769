pub mod Within
pub mod Reading
pub mod Lacking
pub mod Looping
pub mod Listing
pub mod Declaring
pub mod OneModule
