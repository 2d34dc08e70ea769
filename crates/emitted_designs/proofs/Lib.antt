pub mod Named
pub mod Childless
pub mod Refining
mod Obligations
mod BenchModels
mod BenchObligations
mod BenchRules
mod Switch
mod Stores
mod Child
mod Nested
