pub mod Places
pub mod Statements
pub mod Effects
pub mod Registers
pub mod WorkedStatements
