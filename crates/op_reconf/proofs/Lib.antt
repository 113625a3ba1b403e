pub mod Asked
pub mod Ending
pub mod Leading
pub mod Calling
