pub mod ClockName
pub mod Stamps
pub mod Rule
pub mod Steps
