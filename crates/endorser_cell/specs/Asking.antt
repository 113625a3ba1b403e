-- One call of a cell, or of the cells of a bank, and its line in the list of the bank.
use Rattle.std.specs.Prelude.{◌≡◌, ◌⊎◌, ℕ, true, false, List, [], ◌∷◌, ◌++◌, Option, Some, None, IsSome, Result, Ok, Err}
use Rattle.nim_base.specs.declared.no_memory.NoMemory.{NoMemory as WantOfMemory}
use Rattle.port.specs.declared.endorser_answer.EndorserAnswer.{EndorserAnswer}
use Rattle.port.specs.Call.{Call}
use Rattle.port.specs.Answer.{Answer, answer_of}
use Rattle.port.specs.Heard.{Heard, Answered, Lost, NoMemory}
use Rattle.endorser_cell.specs.declared.losses.Losses.{Losses}
use Rattle.endorser_cell.specs.declared.losses.Loss.{Loss}
use Rattle.endorser_cell.specs.Losses.{IsMore, LosesRequest, LosesReply}
use Rattle.endorser_cell.specs.EndorserCell.{EndorserCell, Calls}
use Rattle.endorser_cell.specs.BankLine.{BankLine, unserved, asked_line}
use Rattle.endorser_cell.specs.Cells.{cell_of, put_cell}

-- the line came to the list, unless memory ran out
abbrev pub IsNoted : List BankLine → List BankLine → BankLine → Heard → Type 0
IsNoted old new line Lost = new ≡ old ++ line ∷ []
IsNoted old new line NoMemory = new ≡ old
IsNoted old new line (Answered answer) = ⊥

-- More calls of this endorser are to lose that half; all other cells stay.
pub record LosesMore {S C : Type 0} (cells after : List (EndorserCell S C)) (id : ℕ) (which : Loss) (n : ℕ) : Type 0 where
  pub some : (cell : EndorserCell S C) → cell_of cells id ≡ Some cell
      → (losses : Losses) × IsMore cell.losses which n losses × (after ≡ put_cell cells id (record cell { losses = losses }))
  pub none : cell_of cells id ≡ None → after ≡ cells

-- no endorser has the id, and the call was lost
pub record NoOne {S C : Type 0} (cells after : List (EndorserCell S C)) (log longer : List BankLine) (number id : ℕ) (call : Call) (heard : Heard) : Type 0 where
  pub none : cell_of cells id ≡ None
  pub stays : after ≡ cells
  pub noted : IsNoted log longer (unserved number id call) heard

module _ {S C : Type 0} (key : S → List ℕ) (left size : S → ℕ) (signs : S → List ℕ → List ℕ → S → Type 0) (fit : S → C → Type 0) where
  -- the endorser's answer was heard, since no call of it was to be lost
  pub record CellHears (cell after : EndorserCell S C) (log longer : List BankLine) (number id : ℕ) (call : Call) (answer : Answer) : Type 0 where
    pub noted : longer ≡ log ++ asked_line (Some number) id call answer true ∷ []
    pub no_request : cell.losses.requests ≡ 0
    pub no_reply : cell.losses.replies ≡ 0
    pub answers : Calls key left size signs fit cell after call answer

  -- the call was lost before the endorser took its step
  pub record CellMisses (cell after : EndorserCell S C) (log longer : List BankLine) (number id : ℕ) (call : Call) : Type 0 where
    pub noted : longer ≡ log ++ unserved number id call ∷ []
    pub losses : Losses
    pub stays : after ≡ record cell { losses = losses }
    pub lost : LosesRequest cell.losses losses

  -- the answer was lost, since no request was to be
  pub record CellIsUnheard (cell after : EndorserCell S C) (log longer : List BankLine) (number id : ℕ) (call : Call) : Type 0 where
    pub answer : Answer
    pub called : EndorserCell S C
    pub losses : Losses
    pub noted : longer ≡ log ++ asked_line (Some number) id call answer false ∷ []
    pub goes : after ≡ record called { losses = losses }
    pub no_request : cell.losses.requests ≡ 0
    pub lost : LosesReply cell.losses losses
    pub answers : Calls key left size signs fit cell called call answer

  abbrev pub AsksCell : EndorserCell S C → EndorserCell S C → List BankLine → List BankLine → ℕ → ℕ → Call → Heard → Type 0
  AsksCell cell after log longer number id call (Answered answer) = CellHears cell after log longer number id call answer
  AsksCell cell after log longer number id call Lost = CellMisses cell after log longer number id call ⊎ CellIsUnheard cell after log longer number id call
  AsksCell cell after log longer number id call NoMemory = (after ≡ cell) × (longer ≡ log)

  -- the endorser of the id was asked, by the rules of its cell
  pub record Reaches (cells after : List (EndorserCell S C)) (log longer : List BankLine) (number id : ℕ) (call : Call) (heard : Heard) : Type 0 where
    pub cell : EndorserCell S C
    pub next : EndorserCell S C
    pub found : cell_of cells id ≡ Some cell
    pub put : after ≡ put_cell cells id next
    pub asks : AsksCell cell next log longer number id call heard

  -- one call over a link to these cells
  abbrev pub Asks : List (EndorserCell S C) → List (EndorserCell S C) → List BankLine → List BankLine → ℕ → ℕ → Call → Heard → Type 0
  Asks cells after log longer number id call heard =
      Reaches cells after log longer number id call heard ⊎ NoOne cells after log longer number id call heard

  -- one call that passes no link
  pub record AsksRaw (cells after : List (EndorserCell S C)) (log longer : List BankLine) (id : ℕ) (call : Call) (answer : Answer) : Type 0 where
    pub cell : EndorserCell S C
    pub next : EndorserCell S C
    pub found : cell_of cells id ≡ Some cell
    pub put : after ≡ put_cell cells id next
    pub noted : longer ≡ log ++ asked_line None id call answer true ∷ []
    pub answers : Calls key left size signs fit cell next call answer

  -- the answer to such a call; none where no endorser has the id
  abbrev pub IsRaw : List (EndorserCell S C) → List (EndorserCell S C) → List BankLine → List BankLine → ℕ → Call → Option (Result EndorserAnswer WantOfMemory) → Type 0
  IsRaw cells after log longer id call None = (cell_of cells id ≡ None) × (after ≡ cells) × (longer ≡ log)
  IsRaw cells after log longer id call (Some (Err e)) = IsSome (cell_of cells id) × (after ≡ cells) × (longer ≡ log)
  IsRaw cells after log longer id call (Some (Ok answer)) = AsksRaw cells after log longer id call (answer_of answer)
