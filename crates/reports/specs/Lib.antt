pub mod Question
pub mod Encoding
pub mod Solutions
pub mod Report
