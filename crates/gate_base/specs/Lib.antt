pub mod Assumed
pub mod Circuit
pub mod Clauses
pub mod Keys
pub mod Question
