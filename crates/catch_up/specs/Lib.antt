pub mod State
pub mod Told
pub mod Answers
pub mod OwnCalls
pub mod Says
pub mod Sound
pub mod Turn
