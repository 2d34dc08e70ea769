pub mod Numbers
pub mod Order
pub mod Told
pub mod Texts
