pub mod Naming
pub mod Models
pub mod Scopes
pub mod Staged
