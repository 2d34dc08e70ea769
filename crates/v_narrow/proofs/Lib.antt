pub mod Decided
pub mod Arms
pub mod Counted
pub mod Narrowed
pub mod Fitted
