pub mod Values
pub mod Noted
pub mod Asked
pub mod Run
pub mod Begun
