pub mod Lines
pub mod Cells
pub mod Served
pub mod Banks
pub mod Counts
pub mod LinkSteps
pub mod RawCalls
