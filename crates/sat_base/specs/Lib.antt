pub mod Literal
pub mod Formula
pub mod Propagation
pub mod Log
pub mod Codes
pub mod Steps
