pub mod Asking
pub mod Taken
pub mod Draws
pub mod Giving
