pub mod Act
pub mod Lines
pub mod ClientList
pub mod Answers
pub mod ClientPass
pub mod Record
