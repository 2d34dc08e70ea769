pub mod Unbroken
pub mod Reading
pub mod Places
pub mod Homes
pub mod WellSorted
pub mod Children
pub mod Top
pub mod Sound
pub mod FreshTop
pub mod Refusals
pub mod SortedParts
pub mod ShapeOf
pub mod Kept
mod Small
