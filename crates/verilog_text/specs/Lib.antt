pub mod Token
pub mod Lexical
pub mod Text
pub mod Spelling
pub mod Grammar
