-- How many calls were served, after a line more.
use Rattle.std.proofs.Common.{◌≡◌, ◌⊎◌, ℕ, ◌+◌, ◌≤◌, Bool, true, false, cond, List, [], ◌∷◌, ◌++◌, length, Option, Some, None, Result, Ok, Err, inl, inr, refl, sym, ap, ◌∙◌, arith}
use Rattle.std.specs.Prelude.{slice_get}
use Rattle.std.specs.Option.{option_map_or}
use Rattle.nim_base.specs.declared.no_memory.NoMemory.{NoMemory as WantOfMemory}
use Rattle.port.specs.declared.endorser_answer.EndorserAnswer.{EndorserAnswer}
use Rattle.port.specs.Call.{Call}
use Rattle.port.specs.Answer.{Answer, answer_of, Done, Signed, Finaled, Shown, Refused, Behind, Stands, OtherTail, NotGenesis, Full, Tall, NotMember, BadView, BadProof, WrongPhase, HasEnded, OtherNext, Spent, LogFull}
use Rattle.port.specs.Heard.{Heard, Answered, Lost, NoMemory}
use Rattle.port.specs.Link.{Served, served_after}
use Rattle.endorser_cell.specs.Asking.{AsksCell, Asks, IsNoted, IsRaw}
use Rattle.endorser_cell.specs.BankLine.{BankLine, asked_line, unserved, serving, served_by}
use Rattle.endorser_cell.specs.EndorserCell.{EndorserCell}
use Rattle.roster_bank.specs.Counting.{count_in}
use Rattle.roster_bank.specs.Places.{was_served}

after_one : (past : List Served) (id : ℕ) (call : Call) (answer : Answer) → length (served_after past id call answer) ≡ length past + cond (was_served (Some answer)) 1 0
after_one past id call Done = omega arith
after_one past id call (Signed statement sig) = omega arith
after_one past id call (Finaled statement sig map) = omega arith
after_one past id call (Shown phase number tail count) = omega arith
after_one past id call (Refused (Behind count)) = omega arith
after_one past id call (Refused (Stands count tail)) = omega arith
after_one past id call (Refused (OtherTail tail)) = omega arith
after_one past id call (Refused NotGenesis) = omega arith
after_one past id call (Refused Full) = omega arith
after_one past id call (Refused Tall) = omega arith
after_one past id call (Refused NotMember) = omega arith
after_one past id call (Refused BadView) = omega arith
after_one past id call (Refused (BadProof cause)) = omega arith
after_one past id call (Refused (WrongPhase phase)) = omega arith
after_one past id call (Refused (HasEnded statement sig)) = omega arith
after_one past id call (Refused (OtherNext next)) = omega arith
after_one past id call (Refused Spent) = omega arith
after_one past id call (Refused LogFull) = omega arith

of_line : (past : List Served) (line : BankLine) (answer : Option Answer) → length (serving line answer past) ≡ length past + cond (was_served answer) 1 0
of_line past line None = omega arith
of_line past line (Some answer) = after_one past line.id line.call answer

with_line : (past : List Served) (log : List BankLine) (line : BankLine) → length (served_by past (log ++ line ∷ [])) ≡ length (served_by past log) + cond (was_served line.answer) 1 0
with_line past [] line = of_line past line line.answer
with_line past (first ∷ log) line = with_line (serving first first.answer past) log line

at_most_one : (b : Bool) → cond b 1 0 ≤ 1
at_most_one true = omega arith
at_most_one false = omega arith

fewer : (past : List Served) (log : List BankLine) → length (served_by past log) ≤ length past + length log
fewer past [] = omega arith
fewer past (line ∷ log) =
    let rest = fewer (serving line line.answer past) log in
    let one = of_line past line line.answer in
    let few = at_most_one (was_served line.answer) in
    omega (arith, rest, one, few)

-- no more were served than were asked
pub few_served : (served : ℕ) (log : List BankLine) (n : ℕ) → served ≡ length (served_by [] log) → n ≡ length log → served ≤ n
few_served served log n is count = let few = fewer [] log in omega (arith, is, count, few)

-- the list is as it was, or has a line more
abbrev pub IsNext : List BankLine → List BankLine → Type 0
IsNext log longer = (longer ≡ log) ⊎ ((line : BankLine) × (longer ≡ log ++ line ∷ []))

past_end : (log : List BankLine) → slice_get log (length log) ≡ None
past_end [] = refl
past_end (line ∷ log) = past_end log

at_end : (log : List BankLine) (line : BankLine) → slice_get (log ++ line ∷ []) (length log) ≡ Some line
at_end [] line = refl
at_end (first ∷ log) line = at_end log line

counted : (log longer : List BankLine) → IsNext log longer → length (served_by [] log) + count_in (slice_get longer (length log)) ≡ length (served_by [] longer)
counted log longer (inl same) =
    let none : slice_get longer (length log) ≡ None = ap (λ (l : List BankLine). slice_get l (length log)) same ∙ past_end log in
    let nothing : count_in (slice_get longer (length log)) ≡ 0 = ap count_in none in
    let as_many : length (served_by [] longer) ≡ length (served_by [] log) = ap (λ (l : List BankLine). length (served_by [] l)) same in
    omega (arith, nothing, as_many)
counted log longer (inr (line, more)) =
    let one : slice_get longer (length log) ≡ Some line = ap (λ (l : List BankLine). slice_get l (length log)) more ∙ at_end log line in
    let counts : count_in (slice_get longer (length log)) ≡ cond (was_served line.answer) 1 0 = ap count_in one in
    let as_many : length (served_by [] longer) ≡ length (served_by [] log) + cond (was_served line.answer) 1 0 =
    ap (λ (l : List BankLine). length (served_by [] l)) more ∙ with_line [] log line in
    omega (arith, counts, as_many)

-- so many were served before, and a line of this number may have come
pub served_now : (log longer shown : List BankLine) (served n now : ℕ) → IsNext log longer → served ≡ length (served_by [] log) → n ≡ length log → shown ≡ longer
    → now ≡ served + count_in (slice_get shown n) → now ≡ length (served_by [] longer)
served_now log longer shown served n now next was count same is =
    is ∙ ap (λ (l : List BankLine). served + count_in (slice_get l n)) same ∙ ap (λ (m : ℕ). served + count_in (slice_get longer m)) count
    ∙ ap (λ (m : ℕ). m + count_in (slice_get longer (length log))) was ∙ counted log longer next

noted_next : (log longer : List BankLine) (line : BankLine) (heard : Heard) → IsNoted log longer line heard → IsNext log longer
noted_next log longer line Lost noted = inr (line, noted)
noted_next log longer line NoMemory noted = inl noted
noted_next log longer line (Answered answer) noted = absurd noted

module _ {S C : Type 0} (key : S → List ℕ) (left size : S → ℕ) (signs : S → List ℕ → List ℕ → S → Type 0) (fit : S → C → Type 0) where
  cell_next : (cell after : EndorserCell S C) (log longer : List BankLine) (number id : ℕ) (call : Call) (heard : Heard)
      → AsksCell key left size signs fit cell after log longer number id call heard → IsNext log longer
  cell_next cell after log longer number id call (Answered answer) h = inr (asked_line (Some number) id call answer true, h.noted)
  cell_next cell after log longer number id call Lost (inl h) = inr (unserved number id call, h.noted)
  cell_next cell after log longer number id call Lost (inr h) = inr (asked_line (Some number) id call h.answer false, h.noted)
  cell_next cell after log longer number id call NoMemory h = inl h.1

  pub link_next : (cells after : List (EndorserCell S C)) (log longer : List BankLine) (number id : ℕ) (call : Call) (heard : Heard)
      → Asks key left size signs fit cells after log longer number id call heard → IsNext log longer
  link_next cells after log longer number id call heard (inl h) = cell_next h.cell h.next log longer number id call heard h.asks
  link_next cells after log longer number id call heard (inr h) = noted_next log longer (unserved number id call) heard h.noted

  pub raw_next : (cells after : List (EndorserCell S C)) (log longer : List BankLine) (id : ℕ) (call : Call) (result : Option (Result EndorserAnswer WantOfMemory))
      → IsRaw key left size signs fit cells after log longer id call result → IsNext log longer
  raw_next cells after log longer id call None raw = inl raw.2
  raw_next cells after log longer id call (Some (Err e)) raw = inl raw.2
  raw_next cells after log longer id call (Some (Ok answer)) raw = inr (asked_line None id call (answer_of answer) true, raw.noted)

-- as many as a link tells that tells what was served
pub as_told : (served : ℕ) (calls : List Served) (fresh : Bool) → fresh ≡ true → served ≡ length calls → served ≡ option_map_or length (cond fresh (Some calls) None) 0
as_told served calls fresh is count = count ∙ sym (ap (λ (b : Bool). option_map_or (length {A = Served}) (cond b (Some calls) None) 0) is)
