pub mod Readable
pub mod Standing
pub mod Unbroken
