pub mod Plain
pub mod Seals
pub mod SetUp
pub mod PlainRun
pub mod Tied
pub mod Printing
pub mod Replayed
pub mod Printed
