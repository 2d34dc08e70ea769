pub mod View
pub mod Places
pub mod Reading
pub mod Parts
pub mod KeyParts
pub mod KeySpots
pub mod ShapeSpots
