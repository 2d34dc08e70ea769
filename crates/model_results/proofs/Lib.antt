pub mod Iterated
pub mod Does
