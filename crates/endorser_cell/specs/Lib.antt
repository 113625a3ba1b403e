pub mod Losses
pub mod EndorserCell
pub mod BankLine
pub mod Asking
pub mod Cells
pub mod CellBank
