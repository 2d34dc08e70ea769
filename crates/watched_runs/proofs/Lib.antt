pub mod Refining
pub mod Answers
