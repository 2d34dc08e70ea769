mod Adding
mod Texts
mod Entered
mod Lined
mod Told
mod Ordering
mod Whole
