pub mod Flaws
pub mod First
pub mod Lists
pub mod Standing
pub mod Asking
