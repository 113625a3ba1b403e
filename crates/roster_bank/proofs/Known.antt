-- Lines come to the list of a bank by calls of its endorsers alone.
use Rattle.std.proofs.Common.{◌≡◌, ℕ, ◌+◌, Bool, true, false, cond, List, [], ◌∷◌, ◌++◌, Option, Some, None, Result, Ok, Err, inl, inr, refl, sym, ap, subst, ◌∙◌}
use Rattle.std.specs.Prelude.{IsSome, option_map}
use Rattle.std.specs.List.{AllByRecursion}
use Rattle.std.proofs.lemmas.Bool.Decides.{eqb_tells}
use Rattle.nim_base.specs.declared.no_memory.NoMemory.{NoMemory as WantOfMemory}
use Rattle.statement.specs.Config.{ids}
use Rattle.port.specs.declared.endorser_answer.EndorserAnswer.{EndorserAnswer}
use Rattle.port.specs.Call.{Call}
use Rattle.port.specs.Answer.{answer_of}
use Rattle.port.specs.Heard.{Heard, Answered, Lost, NoMemory}
use Rattle.endorser_cell.specs.EndorserCell.{EndorserCell}
use Rattle.endorser_cell.specs.BankLine.{BankLine, unserved, asked_line}
use Rattle.endorser_cell.specs.Cells.{cell_of}
use Rattle.endorser_cell.specs.Asking.{AsksCell, Asks, IsNoted, IsRaw}
use Rattle.roster_bank.specs.Roster.{members_of}
use Rattle.roster_bank.specs.Places.{place_in, IsOfMember}

abbrev pub AreKnown : List ℕ → List BankLine → Type 0
AreKnown ids log = AllByRecursion (IsOfMember ids) log

push_known : (ids : List ℕ) (log : List BankLine) (line : BankLine) → AreKnown ids log → IsOfMember ids line → AreKnown ids (log ++ line ∷ [])
push_known ids [] line known one = (one, tt)
push_known ids (first ∷ log) line known one = (known.0, push_known ids log line known.1 one)

longer_known : (ids : List ℕ) (log longer : List BankLine) (line : BankLine) → AreKnown ids log → longer ≡ log ++ line ∷ [] → IsOfMember ids line → AreKnown ids longer
longer_known ids log longer line known e one = subst (AreKnown ids) (sym e) (push_known ids log line known one)

same_known : (ids : List ℕ) (log longer : List BankLine) → AreKnown ids log → longer ≡ log → AreKnown ids longer
same_known ids log longer known e = subst (AreKnown ids) (sym e) known

noted_known : (ids : List ℕ) (log longer : List BankLine) (number id : ℕ) (call : Call) (heard : Heard) → AreKnown ids log → IsNoted log longer (unserved number id call) heard → AreKnown ids longer
noted_known ids log longer number id call Lost known noted = longer_known ids log longer (unserved number id call) known noted (λ e. absurd cc)
noted_known ids log longer number id call NoMemory known noted = same_known ids log longer known noted
noted_known ids log longer number id call (Answered answer) known noted = absurd noted

module _ {S C : Type 0} (key : S → List ℕ) where
  somewhere : (cells : List (EndorserCell S C)) (id : ℕ) (cell : EndorserCell S C) → cell_of cells id ≡ Some cell → IsSome (place_in (ids (members_of key cells)) id)
  somewhere [] id cell e = absurd cc
  somewhere (first ∷ cells) id cell e =
      elim (eqb_tells first.endorser.id id) [
        | inl same ↦ subst (λ (b : Bool). IsSome (cond b (Some 0) (option_map (λ p. p + 1) (place_in (ids (members_of key cells)) id)))) (sym same.0) refl
        | inr differs ↦
            let rest = somewhere cells id cell (sym (ap (λ (b : Bool). cond b (Some first) (cell_of cells id)) differs.0) ∙ e) in
            subst (λ (b : Bool). IsSome (cond b (Some 0) (option_map (λ p. p + 1) (place_in (ids (members_of key cells)) id)))) (sym differs.0) (later (place_in (ids (members_of key cells)) id) rest)
      ] where
        later : (found : Option ℕ) → IsSome found → IsSome (option_map (λ p. p + 1) found)
        later None some = absurd cc
        later (Some place) some = refl

  module _ (left size : S → ℕ) (signs : S → List ℕ → List ℕ → S → Type 0) (fit : S → C → Type 0) where
    asked_known : (all : List ℕ) (cell next : EndorserCell S C) (log longer : List BankLine) (number id : ℕ) (call : Call) (heard : Heard)
        → AreKnown all log → IsSome (place_in all id) → AsksCell key left size signs fit cell next log longer number id call heard → AreKnown all longer
    asked_known all cell next log longer number id call (Answered answer) known some h =
        longer_known all log longer (asked_line (Some number) id call answer true) known h.noted (λ _. some)
    asked_known all cell next log longer number id call Lost known some (inl h) = longer_known all log longer (unserved number id call) known h.noted (λ e. absurd cc)
    asked_known all cell next log longer number id call Lost known some (inr h) =
        longer_known all log longer (asked_line (Some number) id call h.answer false) known h.noted (λ _. some)
    asked_known all cell next log longer number id call NoMemory known some h = same_known all log longer known h.1

    pub link_known : (cells after : List (EndorserCell S C)) (log longer : List BankLine) (number id : ℕ) (call : Call) (heard : Heard)
        → AreKnown (ids (members_of key cells)) log → Asks key left size signs fit cells after log longer number id call heard → AreKnown (ids (members_of key cells)) longer
    link_known cells after log longer number id call heard known (inl h) =
        asked_known (ids (members_of key cells)) h.cell h.next log longer number id call heard known (somewhere cells id h.cell h.found) h.asks
    link_known cells after log longer number id call heard known (inr h) = noted_known (ids (members_of key cells)) log longer number id call heard known h.noted

    pub raw_known : (cells after : List (EndorserCell S C)) (log longer : List BankLine) (id : ℕ) (call : Call) (result : Option (Result EndorserAnswer WantOfMemory))
        → AreKnown (ids (members_of key cells)) log → IsRaw key left size signs fit cells after log longer id call result → AreKnown (ids (members_of key cells)) longer
    raw_known cells after log longer id call None known raw = same_known (ids (members_of key cells)) log longer known raw.2
    raw_known cells after log longer id call (Some (Err e)) known raw = same_known (ids (members_of key cells)) log longer known raw.2
    raw_known cells after log longer id call (Some (Ok answer)) known raw =
        longer_known (ids (members_of key cells)) log longer (asked_line None id call (answer_of answer) true) known raw.noted (λ _. somewhere cells id raw.cell raw.found)
