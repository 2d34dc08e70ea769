pub mod Sites
pub mod Notes
pub mod Parts
pub mod First
pub mod KeyPlaces
pub mod ShapePlaces
