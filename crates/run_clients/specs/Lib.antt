pub mod Clients
pub mod Places
