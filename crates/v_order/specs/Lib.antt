pub mod Drivers
pub mod Lists
