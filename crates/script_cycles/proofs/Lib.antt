pub mod Rest
pub mod Given
