pub mod Lists
pub mod Reading
pub mod View
pub mod Flat
pub mod Place
