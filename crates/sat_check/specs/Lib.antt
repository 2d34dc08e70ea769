pub mod Marks
pub mod Numbering
pub mod Walk
pub mod Checker
pub mod Verdict
