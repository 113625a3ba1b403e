pub mod Bytes
pub mod Entry
pub mod EntryFault
pub mod Links
pub mod MetaBlock
pub mod Tail
