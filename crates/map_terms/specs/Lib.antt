pub mod Terms
pub mod Ready
pub mod Places
pub mod View
