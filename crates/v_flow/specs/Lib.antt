pub mod Spans
pub mod Narrow
pub mod Flow
