pub mod Located
pub mod Tables
pub mod Laws
