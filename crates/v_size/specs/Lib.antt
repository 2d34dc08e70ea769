pub mod Rule
pub mod Judged
pub mod Sizing
