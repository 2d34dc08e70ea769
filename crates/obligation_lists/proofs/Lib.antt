pub mod Growing
pub mod Commands
pub mod Instructions
pub mod Apart
pub mod NameParts
