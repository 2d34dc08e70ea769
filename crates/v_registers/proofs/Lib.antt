pub mod FirstNames
pub mod ByNames
pub mod WordMasks
pub mod Splitting
