-- The words of the builders' contracts.
pub mod Small
