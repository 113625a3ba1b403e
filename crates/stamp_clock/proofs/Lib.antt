pub mod Totals
pub mod Numbers
pub mod StepLemmas
pub mod AllPasses
