pub mod Rtl
pub mod Nodes
pub mod Stores
pub mod Kept
pub mod Module
pub mod Laws
