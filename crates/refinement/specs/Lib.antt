pub mod Map
pub mod Run
pub mod Refinement
pub mod Obligation
pub mod Soundness
pub mod Worked
