pub mod NextSettling
pub mod CalmRun
