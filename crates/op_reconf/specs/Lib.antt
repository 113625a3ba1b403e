pub mod SettingUp
pub mod SetUpSound
pub mod First
pub mod State
pub mod Steps
pub mod Sound
pub mod Says
pub mod OwnCalls
