pub mod Value
pub mod Number
pub mod Choice
pub mod ReservedWords
pub mod Names
