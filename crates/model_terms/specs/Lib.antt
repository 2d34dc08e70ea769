pub mod Symbolic
pub mod Copied
pub mod Programs
pub mod Puts
pub mod Terms
pub mod Unrolled
