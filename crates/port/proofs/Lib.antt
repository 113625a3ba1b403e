pub mod Forms
pub mod Lists
pub mod RowForms
pub mod ViewForms
pub mod FinalsForms
pub mod Steps
pub mod Traces
