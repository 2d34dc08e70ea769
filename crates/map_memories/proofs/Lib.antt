pub mod Tests
pub mod Shapes
pub mod Paths
pub mod Entries
pub mod Bits
pub mod Numbers
pub mod Told
