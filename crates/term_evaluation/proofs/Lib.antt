pub mod SlotLemmas
pub mod LinkLemmas
pub mod PendingLemmas
pub mod PointLemmas
