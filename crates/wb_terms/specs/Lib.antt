pub mod Sort
pub mod Graph
pub mod Environment
pub mod Entries
pub mod Held
pub mod Walk
pub mod Renamed
