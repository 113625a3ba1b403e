-- A call of a bank's endorser that passes no link.
use Rattle.std.proofs.Common.{◌≡◌, ⊎_elim, ℕ, ◌+◌, Result, Ok, Err, Bool, true, eqb, cond, ◌&&◌, List, [], ◌∷◌, ◌++◌, Option, Some, None, inl, inr, refl, sym, ap, subst, ◌∙◌, arith}
use Rattle.std.specs.Prelude.{is_some}
use Rattle.std.specs.Option.{option_map}
use Rattle.std.proofs.lemmas.Bool.Decides.{eqb_tells}
use Rattle.port.specs.Call.{Call}
use Rattle.nim_base.specs.declared.no_memory.NoMemory.{NoMemory as WantOfMemory}
use Rattle.port.specs.declared.endorser_answer.EndorserAnswer.{EndorserAnswer}
use Rattle.port.specs.Answer.{Answer, answer_of}
use Rattle.port.specs.Heard.{Heard, Answered}
use Rattle.port.specs.Link.{IsFaithful}
use Rattle.endorser_cell.specs.declared.losses.Losses.{Losses}
use Rattle.endorser_cell.specs.EndorserCell.{EndorserCell, Calls}
use Rattle.endorser_cell.specs.BankLine.{BankLine, asked_line, IsLogged, served_by}
use Rattle.endorser_cell.specs.Cells.{cell_of, put_cell, count_of}
use Rattle.endorser_cell.specs.Asking.{AsksRaw, IsRaw}
use Rattle.endorser_cell.specs.CellBank.{CellBank, KeepsCalls, IsServedRaw, IsRawFaithful, due_of, has_cell, loses_none, told_of, bank_of, signs_in}
use Rattle.endorser_cell.proofs.Cells.{found_id, cell_of_put}
use Rattle.endorser_cell.proofs.Served.{logged, served_longer, served_kept}
use Rattle.endorser_cell.proofs.Counts.{count_at, count_elsewhere, same_keeps, Alike, signs_put}
use Rattle.endorser_cell.proofs.LinkSteps.{told_serves, bank_put}

module _ {S C : Type 0} where
  module _ (key : S → List ℕ) (left size : S → ℕ) (signs : S → List ℕ → List ℕ → S → Type 0) (fit : S → C → Type 0) where
    module _ (accepts : C → List ℕ → List ℕ → List ℕ → Bool)
        (law : (signer after : S) (checker : C) (bytes sig : List ℕ) → fit signer checker → signs signer bytes sig after → accepts checker (key signer) bytes sig ≡ true) where
      -- a call that passes no link, by its answer
      raw_alike : (cell after : EndorserCell S C) (call : Call) (answer : Answer) → Calls key left size signs fit cell after call answer → Alike key cell after 0
      raw_alike cell after call answer calls =
          let a = ap (λ (l : Losses). l.lost) calls.same_losses in
          let b = ap (λ (l : Losses). l.requests) calls.same_losses in
          let d = ap (λ (l : Losses). l.replies) calls.same_losses in
          record { same_id = calls.same_id; same_checker = calls.same_checker; same_key = calls.same_key; lost = omega (arith, a); due = omega (arith, b, d) }

      -- a number of losses that a call keeps, for each id
      kept_count : (f : Losses → ℕ) (cells after : List (EndorserCell S C)) (log longer : List BankLine) (id : ℕ) (call : Call) (answer : Answer) → AsksRaw key left size signs fit cells after log longer id call answer
          → (other : ℕ) → count_of f (cell_of after other) ≡ count_of f (cell_of cells other)
      kept_count f cells after log longer id call answer raw other =
          let same : raw.next.endorser.id ≡ id = raw.answers.same_id ∙ found_id cells id raw.cell raw.found in
          ap (λ (l : List (EndorserCell S C)). count_of f (cell_of l other)) raw.put
          ∙ elim (eqb_tells other id) [
            | inl here ↦
                ap (λ (i : ℕ). count_of f (cell_of (put_cell cells id raw.next) i)) here.1
                ∙ count_at f cells id raw.cell raw.next raw.found same ∙ ap f raw.answers.same_losses
                ∙ sym (ap (count_of f) (ap (λ (i : ℕ). cell_of cells i) here.1 ∙ raw.found))
            | inr apart ↦ count_elsewhere f cells id raw.cell raw.next raw.found same other apart.0
          ]

      ids_put : (cells : List (EndorserCell S C)) (id : ℕ) (cell after : EndorserCell S C) → cell_of cells id ≡ Some cell → after.endorser.id ≡ id → (other : ℕ)
          → has_cell (put_cell cells id after) other ≡ has_cell cells other
      ids_put cells id cell after found same other =
          elim (eqb_tells other id) [
            | inl here ↦
                ap is_some (cell_of_put cells id cell after found same other ∙ ap (λ (b : Bool). cond b (Some after) (cell_of cells other)) here.0)
                ∙ sym (ap is_some (ap (λ (i : ℕ). cell_of cells i) here.1 ∙ found))
            | inr apart ↦ ap is_some (cell_of_put cells id cell after found same other ∙ ap (λ (b : Bool). cond b (Some after) (cell_of cells other)) apart.0)
          ]

      -- a line without a number is of no call over the link
      only_before : (log : List BankLine) (line : BankLine) → line.number ≡ None → (n i : ℕ) (c : Call) (h : Heard) → IsLogged (log ++ line ∷ []) n i c h → IsLogged log n i c h
      only_before [] line none n i c h (inl is) = absurd (cc (sym none ∙ is.number))
      only_before [] line none n i c h (inr later) = absurd later
      only_before (first ∷ log) line none n i c h (inl is) = inl is
      only_before (first ∷ log) line none n i c h (inr later) = inr (only_before log line none n i c h later)

      pub raw_keeps : (old new : CellBank S C) (id : ℕ) (call : Call) (result : Option (Result EndorserAnswer WantOfMemory)) → new.calls ≡ old.calls → new.fresh ≡ old.fresh
          → IsRaw key left size signs fit old.cells new.cells old.log new.log id call result → KeepsCalls old new
      raw_keeps old new id call None calls fresh raw = same_keeps old new calls fresh raw.1 raw.2
      raw_keeps old new id call (Some (Err e)) calls fresh raw = same_keeps old new calls fresh raw.1 raw.2
      raw_keeps old new id call (Some (Ok answer)) calls fresh raw = record {
        faults = kept_count (λ l. l.lost) old.cells new.cells old.log new.log id call (answer_of answer) raw;
        ids = λ other. ap (λ (l : List (EndorserCell S C)). has_cell l other) raw.put ∙ ids_put old.cells id raw.cell raw.next raw.found (raw.answers.same_id ∙ found_id old.cells id raw.cell raw.found) other;
        calls = calls;
        known = logged old.log new.log (inr (asked_line None id call (answer_of answer) true, raw.noted));
        only = λ n i c h was. ⊎_elim (λ none. inl none)
            (λ is. inr (only_before old.log (asked_line None id call (answer_of answer) true) refl n i c h (subst (λ (l : List BankLine). IsLogged l n i c h) raw.noted is))) was;
        fresh = fresh;
      }

      pub raw_due : (cells after : List (EndorserCell S C)) (log longer : List BankLine) (id : ℕ) (call : Call) (result : Option (Result EndorserAnswer WantOfMemory))
          → IsRaw key left size signs fit cells after log longer id call result → (other : ℕ) → due_of after other ≡ due_of cells other
      raw_due cells after log longer id call None raw other = ap (λ (l : List (EndorserCell S C)). due_of l other) raw.1
      raw_due cells after log longer id call (Some (Err e)) raw other = ap (λ (l : List (EndorserCell S C)). due_of l other) raw.1
      raw_due cells after log longer id call (Some (Ok answer)) raw other = kept_count (λ l. l.requests + l.replies) cells after log longer id call (answer_of answer) raw other

      pub raw_serves : (cells after : List (EndorserCell S C)) (log longer : List BankLine) (id : ℕ) (call : Call) (result : Option (Result EndorserAnswer WantOfMemory))
          → IsRaw key left size signs fit cells after log longer id call result → IsServedRaw log longer id call result
      raw_serves cells after log longer id call None raw = raw.2
      raw_serves cells after log longer id call (Some (Err e)) raw = raw.2
      raw_serves cells after log longer id call (Some (Ok answer)) raw =
          served_longer log longer (asked_line None id call (answer_of answer) true) raw.noted ∙ served_kept (served_by [] log) id call (answer_of answer)

      loses_put : (cells : List (EndorserCell S C)) (id : ℕ) (cell after : EndorserCell S C) → cell_of cells id ≡ Some cell → after.losses ≡ cell.losses → loses_none (put_cell cells id after) ≡ loses_none cells
      loses_put [] id cell after found same = refl
      loses_put (first ∷ cells) id cell after found same =
          elim (eqb_tells first.endorser.id id) [
            | inl here ↦
                let is : first ≡ cell = cc (sym (ap (λ (b : Bool). cond b (Some first) (cell_of cells id)) here.0) ∙ found) in
                ap loses_none (ap (λ (b : Bool). cond b (after ∷ cells) (first ∷ put_cell cells id after)) here.0)
                ∙ ap (λ (l : Losses). (eqb l.requests 0 && eqb l.replies 0) && loses_none cells) (same ∙ sym (ap (λ (x : EndorserCell S C). x.losses) is))
            | inr apart ↦
                ap loses_none (ap (λ (b : Bool). cond b (after ∷ cells) (first ∷ put_cell cells id after)) apart.0)
                ∙ ap (λ (b : Bool). (eqb first.losses.requests 0 && eqb first.losses.replies 0) && b) (loses_put cells id cell after (sym (ap (λ (b : Bool). cond b (Some first) (cell_of cells id)) apart.0) ∙ found) same)
          ]

      pub raw_faithful : (old new : CellBank S C) (id : ℕ) (call : Call) (result : Option (Result EndorserAnswer WantOfMemory))
          → IsRaw key left size signs fit old.cells new.cells old.log new.log id call result → IsRawFaithful key left accepts old new id call result
      raw_faithful old new id call None raw = raw.1
      raw_faithful old new id call (Some (Err e)) raw = raw.1
      raw_faithful old new id call (Some (Ok answer)) raw =
          let faithful : IsFaithful (signs_in key left accepts old.cells) (bank_of key left accepts old.cells) id call (Answered (answer_of answer)) (bank_of key left accepts (put_cell old.cells id raw.next)) = (
            told_of key left accepts raw.cell,
            told_of key left accepts raw.next,
            ap (option_map (told_of key left accepts)) raw.found,
            told_serves key left size signs fit accepts law old.cells id raw.cell raw.next call (answer_of answer) raw.found raw.answers,
            bank_put key left size signs fit accepts law old.cells id raw.cell raw.next raw.found (raw.answers.same_id ∙ found_id old.cells id raw.cell raw.found),
          ) in
          record {
            losses = ap loses_none raw.put ∙ loses_put old.cells id raw.cell raw.next raw.found raw.answers.same_losses;
            signs = ap (signs_in key left accepts) raw.put ∙ signs_put key left accepts old.cells id raw.cell raw.next 0 raw.found (raw_alike raw.cell raw.next call (answer_of answer) raw.answers);
            faithful = subst (λ (l : List (EndorserCell S C)). IsFaithful (signs_in key left accepts old.cells) (bank_of key left accepts old.cells) id call (Answered (answer_of answer)) (bank_of key left accepts l)) (sym raw.put) faithful;
          }
