pub mod Tokens
pub mod View
pub mod Trees
