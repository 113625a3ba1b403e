pub mod Settling
pub mod State
pub mod Sound
pub mod Says
pub mod Leads
pub mod Turn
pub mod Laws
