pub mod Linked
pub mod Yeses
pub mod Fronts
pub mod Collisions
