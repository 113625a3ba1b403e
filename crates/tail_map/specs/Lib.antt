pub mod TailMap
pub mod MapForm
pub mod FormFault
