pub mod Forms
pub mod Shifts
pub mod Tests
pub mod Joined
pub mod Names
pub mod Assigned
