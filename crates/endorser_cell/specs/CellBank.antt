-- What contracts see of a bank of endorsers, and what is known of it as a link.
use Rattle.std.specs.Prelude.{◌≡◌, ℕ, ◌+◌, ◌-◌, ◌^◌, ◌==◌, ◌&&◌, min, Bool, true, if◌then◌else◌, List, [], map, length, bytes_eq, Result, Ok, Option, Some, None, is_some}
use Rattle.std.specs.List.{list_any, list_all}
use Rattle.std.specs.Option.{option_map}
use Rattle.nim_base.specs.declared.no_memory.NoMemory.{NoMemory}
use Rattle.port.specs.declared.endorser_answer.EndorserAnswer.{EndorserAnswer}
use Rattle.port.specs.Call.{Call}
use Rattle.port.specs.Answer.{Answer, answer_of}
use Rattle.port.specs.Heard.{Heard, Answered}
use Rattle.port.specs.Link.{Told, Bank, LinkView, IsFaithful, served_after}
use Rattle.endorser_core.specs.Endorser.{me}
use Rattle.endorser_core.specs.Line.{Line}
use Rattle.endorser_cell.specs.EndorserCell.{EndorserCell}
use Rattle.endorser_cell.specs.BankLine.{BankLine, WasLogged, served_by, calls_to}
use Rattle.endorser_cell.specs.Cells.{cell_of, count_of}

-- The cells, the list of the calls from the first on, how many came over the link, and whether no cell had a line when
-- the bank was made.
pub record CellBank (S C : Type 0) : Type 0 where
  pub cells : List (EndorserCell S C)
  pub log : List BankLine
  pub calls : ℕ
  pub fresh : Bool

abbrev pub faults_of : {S C : Type 0} → List (EndorserCell S C) → ℕ → ℕ
faults_of cells id = count_of (λ losses. losses.lost) (cell_of cells id)

-- how many calls of the id are still to be lost
abbrev pub due_of : {S C : Type 0} → List (EndorserCell S C) → ℕ → ℕ
due_of cells id = count_of (λ losses. losses.requests + losses.replies) (cell_of cells id)

abbrev pub has_cell : {S C : Type 0} → List (EndorserCell S C) → ℕ → Bool
has_cell cells id = is_some (cell_of cells id)

-- no call of any of the cells is to be lost
abbrev pub loses_none : {S C : Type 0} → List (EndorserCell S C) → Bool
loses_none cells = list_all (λ cell. (cell.losses.requests == 0) && (cell.losses.replies == 0)) cells

abbrev pub has_no_line : {S C : Type 0} → EndorserCell S C → Bool
has_no_line cell = length cell.lines == 0

-- the calls of a list of lines, with what is kept of their answers
abbrev pub calls_of : List Line → List (Call × Answer)
calls_of lines = map (λ line. (line.call, line.answer)) lines

-- The lines of each cell are the calls that it served, in their order, where none had a line before.
abbrev pub AreServed : {S C : Type 0} → CellBank S C → Type 0
AreServed {S} {C} bank = bank.fresh ≡ true → (id : ℕ) (cell : EndorserCell S C) → cell_of bank.cells id ≡ Some cell
    → calls_of cell.lines ≡ calls_to id (served_by [] bank.log)

-- Which calls over the link are known, and of how many losses, stays.
pub record KeepsCalls {S C : Type 0} (old new : CellBank S C) : Type 0 where
  pub faults : (id : ℕ) → faults_of new.cells id ≡ faults_of old.cells id
  pub ids : (id : ℕ) → has_cell new.cells id ≡ has_cell old.cells id
  pub calls : new.calls ≡ old.calls
  pub known : (n id : ℕ) (call : Call) (heard : Heard) → WasLogged old.log n id call heard → WasLogged new.log n id call heard
  pub only : (n id : ℕ) (call : Call) (heard : Heard) → WasLogged new.log n id call heard → WasLogged old.log n id call heard
  pub fresh : new.fresh ≡ old.fresh

-- so many more calls of the id are to be lost, as far as its losses fit 64 bits; of an id without an endorser none
abbrev pub more_due : {S C : Type 0} → List (EndorserCell S C) → ℕ → ℕ → ℕ
more_due cells id n = if has_cell cells id then due_of cells id + min n (2 ^ 64 - 1 - (due_of cells id + faults_of cells id)) else 0

-- what was served where a call that passes no link was answered so
abbrev pub IsServedRaw : List BankLine → List BankLine → ℕ → Call → Option (Result EndorserAnswer NoMemory) → Type 0
IsServedRaw log longer id call (Some (Ok answer)) = served_by [] longer ≡ served_after (served_by [] log) id call (answer_of answer)
IsServedRaw log longer id call result = longer ≡ log

module _ {S C : Type 0} (key : S → List ℕ) (left : S → ℕ) (accepts : C → List ℕ → List ℕ → List ℕ → Bool) where
  abbrev pub told_of : EndorserCell S C → Told
  told_of cell = record { me = me key cell.endorser; state = cell.endorser.state; stamps = cell.left; signatures = left cell.endorser.signer }

  abbrev pub bank_of : List (EndorserCell S C) → Bank
  bank_of cells = λ id. option_map told_of (cell_of cells id)

  -- the checker of an endorser with this key accepts the signature
  abbrev pub signs_in : List (EndorserCell S C) → List ℕ → List ℕ → List ℕ → Bool
  signs_in cells public bytes sig =
      list_any (λ (cell : EndorserCell S C). bytes_eq public (key cell.endorser.signer) && accepts cell.endorser.checker public bytes sig) cells

  abbrev pub bank_view : CellBank S C → LinkView
  bank_view bank = record {
    faults = faults_of bank.cells;
    has = has_cell bank.cells;
    calls = bank.calls;
    was = WasLogged bank.log;
    signs = signs_in bank.cells;
    told = if loses_none bank.cells then Some (bank_of bank.cells) else None;
    served = if bank.fresh then Some (served_by [] bank.log) else None;
    due = Some (due_of bank.cells);
  }

  -- An endorser that was asked goes by the table, also where no link was passed, and all others stay.
  pub record GoesRaw (old new : CellBank S C) (id : ℕ) (call : Call) (answer : Answer) : Type 0 where
    pub losses : loses_none new.cells ≡ loses_none old.cells
    pub signs : signs_in new.cells ≡ signs_in old.cells
    pub faithful : IsFaithful (signs_in old.cells) (bank_of old.cells) id call (Answered answer) (bank_of new.cells)

  abbrev pub IsRawFaithful : CellBank S C → CellBank S C → ℕ → Call → Option (Result EndorserAnswer NoMemory) → Type 0
  IsRawFaithful old new id call (Some (Ok answer)) = GoesRaw old new id call (answer_of answer)
  IsRawFaithful old new id call result = new.cells ≡ old.cells
