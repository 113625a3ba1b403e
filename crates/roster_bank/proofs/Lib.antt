pub mod Rosters
pub mod Places
pub mod Counts
pub mod Grows
pub mod Known
pub mod Counting
