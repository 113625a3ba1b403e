pub mod Standings
pub mod Newest
pub mod Judges
pub mod Saying
