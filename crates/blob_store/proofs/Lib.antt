pub mod Calls
pub mod KeyMap
pub mod TrueStores
