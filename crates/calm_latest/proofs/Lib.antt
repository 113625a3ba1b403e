pub mod Votes
pub mod LowerLaws
pub mod CalmReads
pub mod Endings
