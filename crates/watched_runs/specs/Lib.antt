pub mod Premises
pub mod Disagreements
pub mod Watched
pub mod Laws
