pub mod Lists
pub mod Fitting
pub mod UnknownKeys
pub mod Refusals
