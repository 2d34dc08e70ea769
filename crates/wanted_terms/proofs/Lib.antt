pub mod Marks
pub mod Listing
pub mod Wanted
