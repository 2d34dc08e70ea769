-- Lemmas on ladders.
pub mod Ladders
