pub mod OneInstruction
pub mod OneResult
pub mod WorkedChild
