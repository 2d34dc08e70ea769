pub mod Expression
pub mod Statement
pub mod Register
pub mod Hierarchy
pub mod Settled
pub mod Process
pub mod Next
pub mod Worked
