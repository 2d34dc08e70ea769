pub mod SameRules
pub mod Real
pub mod Walk
pub mod Judged
pub mod Placed
pub mod Wires
pub mod Declared
pub mod Drivers
