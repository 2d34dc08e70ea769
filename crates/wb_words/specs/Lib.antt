pub mod Application
pub mod Requests
pub mod View
