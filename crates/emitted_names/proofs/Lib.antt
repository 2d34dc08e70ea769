pub mod Turns
pub mod Numbering
pub mod Looked
pub mod Bounds
pub mod Listing
pub mod Marking
pub mod PartMarks
pub mod PartLists
