pub mod Judged
pub mod Asked
pub mod Listed
pub mod Flags
