pub mod Before
pub mod Names
