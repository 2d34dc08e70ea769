pub mod Rule
pub mod Places
pub mod View
pub mod Reading
