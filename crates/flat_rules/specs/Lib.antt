pub mod SameRules
pub mod Sound
pub mod Drivers
