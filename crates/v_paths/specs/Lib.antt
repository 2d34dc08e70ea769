pub mod Premises
pub mod Cases
pub mod Walks
pub mod Latches
pub mod Events
pub mod Modules
