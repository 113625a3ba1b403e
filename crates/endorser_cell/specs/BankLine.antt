-- The list of the calls of a bank of endorsers.
use Rattle.std.specs.Prelude.{◌≡◌, ◌⊎◌, ℕ, ◌==◌, Bool, true, false, if◌then◌else◌, List, [], ◌∷◌, ◌++◌, Option, Some, None}
use Rattle.port.specs.Call.{Call}
use Rattle.port.specs.Answer.{Answer, kept}
use Rattle.port.specs.Heard.{Heard, Answered, Lost, NoMemory}
use Rattle.port.specs.Link.{Served, served_after}

-- its number over the link, the id, what was asked, what is kept of the answer, and whether that was heard
pub record BankLine : Type 0 where
  pub number : Option ℕ
  pub id : ℕ
  pub call : Call
  pub answer : Option Answer
  pub heard : Bool

-- a call that was lost before an endorser took its step
abbrev pub unserved : ℕ → ℕ → Call → BankLine
unserved number id call = record { number = Some number; id = id; call = call; answer = None; heard = false }

-- a call with this answer
abbrev pub asked_line : Option ℕ → ℕ → Call → Answer → Bool → BankLine
asked_line number id call answer heard = record { number = number; id = id; call = call; answer = Some (kept answer); heard = heard }

-- what is kept of what was heard
abbrev pub kept_heard : Heard → Heard
kept_heard (Answered answer) = Answered (kept answer)
kept_heard Lost = Lost
kept_heard NoMemory = NoMemory

-- what was heard
abbrev pub heard_in : Option Answer → Bool → Heard
heard_in (Some answer) true = Answered answer
heard_in answer heard = Lost

-- the line is of this call over the link
pub record IsLineOf (line : BankLine) (n i : ℕ) (asked : Call) (said : Heard) : Type 0 where
  pub number : line.number ≡ Some n
  pub id : line.id ≡ i
  pub call : line.call ≡ asked
  pub heard : heard_in line.answer line.heard ≡ kept_heard said

abbrev pub IsLogged : List BankLine → ℕ → ℕ → Call → Heard → Type 0
IsLogged [] number id call heard = ⊥
IsLogged (line ∷ lines) number id call heard = IsLineOf line number id call heard ⊎ IsLogged lines number id call heard

-- the list has this call under this number; of one that found no memory nothing is known
abbrev pub WasLogged : List BankLine → ℕ → ℕ → Call → Heard → Type 0
WasLogged lines number id call heard = (heard ≡ NoMemory) ⊎ IsLogged lines number id call heard

abbrev pub serving : BankLine → Option Answer → List Served → List Served
serving line None past = past
serving line (Some answer) past = served_after past line.id line.call answer

-- what was served before, and by these lines, the newest first
abbrev pub served_by : List Served → List BankLine → List Served
served_by past [] = past
served_by past (line ∷ lines) = served_by (serving line line.answer past) lines

-- the calls of one endorser with what is kept of its answers, the oldest first
abbrev pub calls_to : ℕ → List Served → List (Call × Answer)
calls_to id [] = []
calls_to id (one ∷ past) = if one.id == id then calls_to id past ++ (one.call, one.answer) ∷ [] else calls_to id past
