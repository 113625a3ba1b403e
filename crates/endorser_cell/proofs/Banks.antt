-- What calls make of a bank's cells.
use Rattle.std.proofs.Common.{◌≡◌, ◌⊎◌, ℕ, true, false, List, [], ◌∷◌, ◌++◌, get_or, Option, Some, None, Result, Ok, Err, inl, inr, refl, sym, ap, subst, ◌∙◌}
use Rattle.std.specs.Prelude.{slice_set, IfOk, OnErr, IsSome}
use Rattle.std.proofs.lemmas.List.{set-get_or}
use Rattle.nim_base.specs.declared.no_memory.NoMemory.{NoMemory as WantOfMemory}
use Rattle.port.specs.declared.endorser_answer.EndorserAnswer.{EndorserAnswer}
use Rattle.port.specs.Call.{Call}
use Rattle.port.specs.Answer.{answer_of}
use Rattle.port.specs.Heard.{Heard, Answered, Lost, NoMemory}
use Rattle.endorser_cell.specs.declared.losses.Loss.{Loss}
use Rattle.endorser_cell.specs.declared.losses.Losses.{Losses}
use Rattle.endorser_cell.specs.Losses.{IsMore}
use Rattle.endorser_cell.specs.EndorserCell.{EndorserCell, Calls}
use Rattle.endorser_cell.specs.BankLine.{BankLine, unserved, asked_line}
use Rattle.endorser_cell.specs.Cells.{IsPlaceOf, cell_of, put_cell}
use Rattle.endorser_cell.specs.Asking.{AsksCell, IsNoted, Asks, IsRaw, LosesMore}
use Rattle.endorser_cell.proofs.Cells.{found_id}
use Rattle.endorser_cell.proofs.Served.{LinesServed, same_lines, same_served, asked_served}

maybe : {A : Type 0} (o : Option A) → (o ≡ None) ⊎ ((x : A) × (o ≡ Some x))
maybe None = inl refl
maybe (Some x) = inr (x, refl)

module _ {S C : Type 0} where
  -- the cell that was read at its id's place
  pub placed : (cells : List (EndorserCell S C)) (id place : ℕ) (cell : EndorserCell S C) → IsPlaceOf cells id place → cell ≡ get_or cells place cell → cell_of cells id ≡ Some cell
  placed cells id place cell at is = at.found cell ∙ ap (λ (x : EndorserCell S C). Some x) (sym is)

  -- losses are set
  pub more_lost : (cells : List (EndorserCell S C)) (id place n : ℕ) (which : Loss) (cell next : EndorserCell S C) (losses : Losses)
      → IsPlaceOf cells id place → cell ≡ get_or cells place cell → next ≡ record cell { losses = losses } → IsMore cell.losses which n losses
      → LosesMore cells (slice_set cells place next) id which n
  more_lost cells id place n which cell next losses at is e more =
      let found : cell_of cells id ≡ Some cell = placed cells id place cell at is in
      record {
        some = λ other same.
            let one : cell ≡ other = cc (sym found ∙ same) in
            (losses, subst (λ (x : EndorserCell S C). IsMore x.losses which n losses) one more, at.set next ∙ ap (λ (x : EndorserCell S C). put_cell cells id x) (e ∙ ap (λ (x : EndorserCell S C). record x { losses = losses }) one));
        none = λ none. cc (sym found ∙ none);
      }

  pub more_served : (cells after : List (EndorserCell S C)) (log : List BankLine) (id n : ℕ) (which : Loss) → LosesMore cells after id which n → LinesServed cells log → LinesServed after log
  more_served cells after log id n which more served =
      elim (maybe (cell_of cells id)) [
        | inl none ↦ subst (λ (l : List (EndorserCell S C)). LinesServed l log) (sym (more.none none)) served
        | inr some ↦
            let set = more.some some.0 some.1 in
            subst (λ (l : List (EndorserCell S C)). LinesServed l log) (sym set.2)
            (same_lines cells log id some.0 (record some.0 { losses = set.0 }) served some.1 (found_id cells id some.0 some.1) refl)
      ]

  module _ (key : S → List ℕ) (left size : S → ℕ) (signs : S → List ℕ → List ℕ → S → Type 0) (fit : S → C → Type 0) where
    -- a call that passes no link, by its answer
    pub raw_is : (cells : List (EndorserCell S C)) (log longer : List BankLine) (id place : ℕ) (call : Call) (cell next : EndorserCell S C) (result : Result EndorserAnswer WantOfMemory)
        → IsPlaceOf cells id place → cell ≡ get_or cells place cell
        → IfOk result (λ answer. Calls key left size signs fit cell next call (answer_of answer))
        → IfOk result (λ answer. longer ≡ log ++ asked_line None id call (answer_of answer) true ∷ [])
        → OnErr result (next ≡ cell) → OnErr result (longer ≡ log)
        → IsRaw key left size signs fit cells (slice_set cells place next) log longer id call (Some result)
    raw_is cells log longer id place call cell next (Ok answer) at is calls noted same same_log = record {
      cell = cell;
      next = next;
      found = placed cells id place cell at is;
      put = at.set next;
      noted = noted;
      answers = calls;
    }
    raw_is cells log longer id place call cell next (Err e) at is calls noted same same_log =
        (subst IsSome (sym (placed cells id place cell at is)) refl, ap (slice_set cells place) (same ∙ is) ∙ set-get_or cells place cell, same_log)

    pub raw_served : (cells after : List (EndorserCell S C)) (log longer : List BankLine) (id : ℕ) (call : Call) (result : Option (Result EndorserAnswer WantOfMemory))
        → IsRaw key left size signs fit cells after log longer id call result → LinesServed cells log → LinesServed after longer
    raw_served cells after log longer id call None raw served =
        subst (λ (l : List (EndorserCell S C)). LinesServed l longer) (sym raw.1) (subst (λ (l : List BankLine). LinesServed cells l) (sym raw.2) served)
    raw_served cells after log longer id call (Some (Err e)) raw served =
        subst (λ (l : List (EndorserCell S C)). LinesServed l longer) (sym raw.1) (subst (λ (l : List BankLine). LinesServed cells l) (sym raw.2) served)
    raw_served cells after log longer id call (Some (Ok answer)) raw served =
        subst (λ (l : List (EndorserCell S C)). LinesServed l longer) (sym raw.put)
        (subst (λ (l : List BankLine). LinesServed (put_cell cells id raw.next) l) (sym raw.noted)
        (asked_served key left size signs fit cells log None id call (answer_of answer) true raw.cell raw.next raw.next served raw.found raw.answers refl refl))

    -- a call over the link of a cell, by what was heard
    cell_served : (cells : List (EndorserCell S C)) (log longer : List BankLine) (number id : ℕ) (call : Call) (heard : Heard) (cell next : EndorserCell S C)
        → cell_of cells id ≡ Some cell → AsksCell key left size signs fit cell next log longer number id call heard → LinesServed cells log → LinesServed (put_cell cells id next) longer
    cell_served cells log longer number id call (Answered answer) cell next found h served =
        subst (λ (l : List BankLine). LinesServed (put_cell cells id next) l) (sym h.noted)
        (asked_served key left size signs fit cells log (Some number) id call answer true cell next next served found h.answers refl refl)
    cell_served cells log longer number id call Lost cell next found (inl h) served =
        subst (λ (l : List BankLine). LinesServed (put_cell cells id next) l) (sym h.noted)
        (same_served (put_cell cells id next) log (unserved number id call) refl
        (same_lines cells log id cell next served found (ap (λ (x : EndorserCell S C). x.endorser.id) h.stays ∙ found_id cells id cell found) (ap (λ (x : EndorserCell S C). x.lines) h.stays)))
    cell_served cells log longer number id call Lost cell next found (inr h) served =
        subst (λ (l : List BankLine). LinesServed (put_cell cells id next) l) (sym h.noted)
        (asked_served key left size signs fit cells log (Some number) id call h.answer false cell h.called next served found h.answers
        (ap (λ (x : EndorserCell S C). x.endorser.id) h.goes) (ap (λ (x : EndorserCell S C). x.lines) h.goes))
    cell_served cells log longer number id call NoMemory cell next found h served =
        subst (λ (l : List BankLine). LinesServed (put_cell cells id next) l) (sym h.1)
        (same_lines cells log id cell next served found (ap (λ (x : EndorserCell S C). x.endorser.id) h.0 ∙ found_id cells id cell found) (ap (λ (x : EndorserCell S C). x.lines) h.0))

    none_served : (cells : List (EndorserCell S C)) (log longer : List BankLine) (number id : ℕ) (call : Call) (heard : Heard)
        → IsNoted log longer (unserved number id call) heard → LinesServed cells log → LinesServed cells longer
    none_served cells log longer number id call Lost noted served =
        subst (λ (l : List BankLine). LinesServed cells l) (sym noted) (same_served cells log (unserved number id call) refl served)
    none_served cells log longer number id call NoMemory noted served = subst (λ (l : List BankLine). LinesServed cells l) (sym noted) served
    none_served cells log longer number id call (Answered answer) noted served = absurd noted

    pub link_served : (cells after : List (EndorserCell S C)) (log longer : List BankLine) (number id : ℕ) (call : Call) (heard : Heard)
        → Asks key left size signs fit cells after log longer number id call heard → LinesServed cells log → LinesServed after longer
    link_served cells after log longer number id call heard (inl h) served =
        subst (λ (l : List (EndorserCell S C)). LinesServed l longer) (sym h.put) (cell_served cells log longer number id call heard h.cell h.next h.found h.asks served)
    link_served cells after log longer number id call heard (inr h) served =
        subst (λ (l : List (EndorserCell S C)). LinesServed l longer) (sym h.stays) (none_served cells log longer number id call heard h.noted served)
