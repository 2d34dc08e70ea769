pub mod Order
pub mod Membership
pub mod Lines
pub mod Tables
pub mod Left
