pub mod Dots
pub mod Leads
pub mod Adding
pub mod Steps
pub mod Taken
pub mod Put
