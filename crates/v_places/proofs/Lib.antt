pub mod AtPaths
pub mod Spots
pub mod Walked
pub mod Bounds
mod Turns
mod Results
mod Rooms
mod Parts
mod Named
mod Joined
