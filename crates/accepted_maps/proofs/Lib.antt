pub mod Spelled
pub mod Still
pub mod Complete
