pub mod Growing
pub mod Bounds
pub mod Forms
pub mod Testing
pub mod Spreading
