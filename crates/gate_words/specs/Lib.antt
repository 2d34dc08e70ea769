pub mod Binary
pub mod Cells
pub mod Words
pub mod Shifts
