pub mod Uses
pub mod Nets
pub mod Data
pub mod Whole
pub mod Views
