-- Endorsers that were asked directly, and calls that are to be lost.
use Rattle.std.specs.Prelude.{◌≡◌, ◌≢◌, ℕ, ◌-◌, List, Option, Some}
use Rattle.chain_block.specs.Entry.{entry_digest}
use Rattle.port.specs.Answer.{Answer}
use Rattle.port.specs.Call.{Call, Append}
use Rattle.port.specs.Row.{Content}
use Rattle.blob_store.specs.declared.lying_store.LyingStore.{LyingStore}
use Rattle.endorser_cell.specs.Asking.{AsksRaw}
use Rattle.endorser_cell.specs.CellBank.{CellBank}
use Rattle.endorser_cell.specs.Cells.{cell_of}
use Rattle.endorser_cell.specs.EndorserCell.{EndorserCell}
use Rattle.coordinator.specs.Entries.{later_entry}
use Rattle.coordinator.specs.State.{State}
use Rattle.endorser_core.specs.Shown.{row_of}
use Rattle.reply_lines.specs.Lines.{raw_line}
use Rattle.script_world.specs.Held.{IsHeld, tail_or_zeros}
use Rattle.script_world.specs.Running.{Running}

-- nothing but the endorsers of the run changed
abbrev pub OnlyLink : {L C : Type 0} → Running L C → Running L C → Type 0
OnlyLink old new = new ≡ record old { state = record old.state { link = new.state.link } }

-- nothing but the store of the run changed
abbrev pub OnlyStore : {L C : Type 0} → Running L C → Running L C → Type 0
OnlyStore old new = new ≡ record old { state = record old.state { store = new.state.store } }

-- The tail on which a direct append builds: the endorser's own where its count is the height, else that of the row below that really stands.
abbrev pub IsPrevOf : {S C : Type 0} → LyingStore → EndorserCell S C → List ℕ → ℕ → List ℕ → Type 0
IsPrevOf store cell handle height prev =
    ((row_of cell.endorser.state handle).1 ≡ height → prev ≡ (row_of cell.endorser.state handle).0)
    × ((row_of cell.endorser.state handle).1 ≢ height → (row : Option Content) × IsHeld store handle (height - 1) row × (prev ≡ tail_or_zeros row))

-- it is that for the endorser of the id
abbrev pub IsPrevFor : {S C : Type 0} → State LyingStore (CellBank S C) C → ℕ → List ℕ → ℕ → List ℕ → Type 0
IsPrevFor {S} {C} state id handle height prev = (cell : EndorserCell S C) × (cell_of state.link.cells id ≡ Some cell) × IsPrevOf state.store cell handle height prev

module _ {S C : Type 0} (key : S → List ℕ) (left size : S → ℕ) (signs : S → List ℕ → List ℕ → S → Type 0) (fit : S → C → Type 0) where
  -- the endorser of the id answered this call, and the line says so
  pub record AnsweredRaw (old new : CellBank S C) (id : ℕ) (call : Call) (line : List ℕ) : Type 0 where
    pub answer : Answer
    pub asks : AsksRaw key left size signs fit old.cells new.cells old.log new.log id call answer
    pub printed : line ≡ raw_line answer

  -- it answered an append of this entry
  pub record AppendedRaw (old : State LyingStore (CellBank S C) C) (new : CellBank S C) (id : ℕ) (handle : List ℕ) (height : ℕ) (nonce payload line : List ℕ) : Type 0 where
    pub prev : List ℕ
    pub above : IsPrevFor old id handle height prev
    pub answered : AnsweredRaw old.link new id (Append handle prev (entry_digest (later_entry handle height nonce payload)) height) line
