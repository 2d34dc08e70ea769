pub mod Slots
pub mod Links
pub mod Pending
pub mod Points
