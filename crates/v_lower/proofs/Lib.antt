pub mod Lowering
pub mod Decisions
pub mod Wholes
pub mod Parity
pub mod Named
pub mod Inserted
pub mod Loading
pub mod Soundness
pub mod Stepping
pub mod Branches
mod Tested
pub mod Turns
pub mod Taken
pub mod Answered
pub mod Contextual
pub mod Chosen
