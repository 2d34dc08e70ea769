pub mod Users
pub mod Table
pub mod Texts
pub mod Whole
