pub mod Judging
pub mod Targets
pub mod Statements
pub mod Items
