pub mod Noting
pub mod Telling
pub mod Stating
pub mod Acting
