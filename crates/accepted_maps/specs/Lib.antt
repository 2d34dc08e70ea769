pub mod Still
pub mod Complete
