pub mod Numbers
pub mod Fitting
pub mod Given
pub mod Rule
pub mod Tables
pub mod Reading
pub mod Told
