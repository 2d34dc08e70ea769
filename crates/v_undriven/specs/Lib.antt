pub mod Names
pub mod Reads
pub mod Premises
pub mod Tables
pub mod Undriven
