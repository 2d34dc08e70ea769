pub mod Kinds
pub mod Files
pub mod Laws
