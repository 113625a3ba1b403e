pub mod FirstMembers
pub mod FirstViews
pub mod Beginnings
