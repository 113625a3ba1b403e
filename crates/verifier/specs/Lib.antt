pub mod Outcomes
pub mod Yes
pub mod Fronts
