pub mod Table
pub mod View
pub mod Place
