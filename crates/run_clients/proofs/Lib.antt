pub mod Names
pub mod NamedClients
