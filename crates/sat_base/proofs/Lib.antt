pub mod CodeLemmas
pub mod Implied
pub mod Worked
pub mod StepLemmas
