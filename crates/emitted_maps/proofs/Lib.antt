pub mod Ordered
pub mod Joined
pub mod Children
pub mod Declared
pub mod Entries
