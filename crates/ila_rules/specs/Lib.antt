pub mod Seen
pub mod Flaws
pub mod View
pub mod Limits
pub mod NameFlaws
pub mod Rule
pub mod Refusals
