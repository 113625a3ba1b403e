pub mod Events
pub mod Stamping
