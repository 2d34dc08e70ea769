pub mod Sets
pub mod Bits
pub mod Lists
pub mod Tables
pub mod Premises
