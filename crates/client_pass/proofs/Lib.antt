pub mod ClientLists
pub mod Marks
pub mod Verdicts
pub mod Passes
