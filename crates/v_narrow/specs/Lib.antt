pub mod Test
pub mod Fitting
