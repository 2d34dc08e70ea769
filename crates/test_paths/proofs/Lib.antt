-- Lemmas on what is narrow.
mod Whole
mod Parts
