pub mod Tables
pub mod Reading
pub mod Entries
pub mod Standings
pub mod Instances
pub mod Clock
