pub mod Expression
pub mod Worked
