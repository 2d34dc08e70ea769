pub mod Lists
pub mod Leaves
pub mod Modules
pub mod Dots
pub mod Shapely
pub mod ShapelyModules
pub mod OfText
