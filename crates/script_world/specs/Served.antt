-- What the lists of calls that a run's endorsers keep are known to be.
use Rattle.std.specs.Prelude.{◌≡◌, ℕ, List, Some}
use Rattle.view_ledger.specs.Receipts.{Accepts}
use Rattle.endorser_cell.specs.CellBank.{CellBank}
use Rattle.endorser_cell.specs.Cells.{cell_of}
use Rattle.endorser_cell.specs.EndorserCell.{EndorserCell, IsLawfulOf}

-- the lines of the cell of this id, where there is one, are a lawful call list of its endorser
abbrev pub HasLawfulList : {S C : Type 0} → (S → List ℕ) → (C → Accepts) → CellBank S C → ℕ → Type 0
HasLawfulList {S} {C} key accepts bank id = (cell : EndorserCell S C) → cell_of bank.cells id ≡ Some cell → IsLawfulOf key accepts cell.endorser cell.lines
