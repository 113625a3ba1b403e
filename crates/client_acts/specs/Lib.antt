pub mod Turns
pub mod ClientActs
pub mod Taking
