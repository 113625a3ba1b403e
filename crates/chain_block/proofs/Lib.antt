pub mod EntryFaults
pub mod EntryLaws
pub mod LinksSteps
pub mod MetaBlockLaws
pub mod Parts
pub mod Places
