pub mod Renamed
pub mod Laws
pub mod EachName
pub mod Agreement
pub mod KnownNames
