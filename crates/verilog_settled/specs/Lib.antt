pub mod Locality
pub mod Laws
