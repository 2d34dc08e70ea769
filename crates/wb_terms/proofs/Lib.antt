pub mod StoreLemmas
pub mod InRange
pub mod EnvironmentLemmas
pub mod HeldLemmas
pub mod ValueSorts
pub mod Renamed
