pub mod Free
pub mod Still
