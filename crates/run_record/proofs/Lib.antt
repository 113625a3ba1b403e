pub mod Counts
pub mod Places
pub mod Sums
pub mod Stamps
pub mod Unstamped
pub mod Made
