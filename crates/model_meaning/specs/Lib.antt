pub mod Among
pub mod Term
pub mod Model
pub mod Instruction
pub mod Outcome
pub mod Invariant
pub mod Worked
