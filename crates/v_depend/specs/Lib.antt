pub mod Resting
pub mod Left
pub mod Copying
pub mod Tables
pub mod Running
