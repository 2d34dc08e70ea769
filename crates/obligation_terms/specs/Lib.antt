pub mod Rest
pub mod Open
pub mod Asked
