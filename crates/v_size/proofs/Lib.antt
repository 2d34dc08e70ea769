pub mod Unbroken
pub mod Chains
pub mod Named
pub mod Arms
pub mod Known
pub mod Steps
pub mod Assigned
