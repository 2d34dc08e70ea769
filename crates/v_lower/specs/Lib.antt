pub mod Lowered
pub mod Answer
pub mod Kinds
pub mod Deciding
pub mod Table
pub mod Reading
pub mod Walking
pub mod Contexts
