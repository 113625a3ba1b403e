pub mod Task
pub mod Operations
pub mod Stepping
pub mod Ending
pub mod Giving
