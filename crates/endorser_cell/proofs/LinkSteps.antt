-- A call of a bank of endorsers, as one of a link.
use Rattle.std.proofs.Common.{◌≡◌, ℕ, ◌+◌, ◌<◌, ◌≤◌, Bool, true, false, eqb, cond, ◌&&◌, List, [], Option, Some, None, inl, inr, refl, sym, ap, subst, ◌∙◌, arith}
use Rattle.std.specs.Prelude.{if◌then◌else◌, is_some, bytes_eq}
use Rattle.std.specs.Option.{option_map}
use Rattle.std.proofs.Math.Path.{fun_ext}
use Rattle.std.proofs.lemmas.Bool.Decides.{eqb_tells}
use Rattle.statement.specs.declared.statement.Statement.{Statement}
use Rattle.statement.specs.Statement.{statement_bytes}
use Rattle.port.specs.Count.{next}
use Rattle.port.specs.Call.{Call}
use Rattle.port.specs.Answer.{Answer}
use Rattle.port.specs.Heard.{Heard, Answered, Lost, NoMemory}
use Rattle.port.specs.Link.{Bank, Served, LinkView, put_told, HasSigned, Serves, IsFaithful, IsServing, losses, LinkStep}
use Rattle.endorser_core.specs.Endorser.{HasSigned as SignerSigned}
use Rattle.endorser_cell.specs.declared.losses.Losses.{Losses}
use Rattle.endorser_cell.specs.EndorserCell.{EndorserCell, Calls}
use Rattle.endorser_cell.specs.BankLine.{BankLine, unserved, asked_line, WasLogged, served_by}
use Rattle.endorser_cell.specs.Cells.{cell_of, put_cell, count_of}
use Rattle.endorser_cell.specs.Asking.{IsNoted, AsksCell, NoOne, Reaches, Asks}
use Rattle.endorser_cell.specs.CellBank.{CellBank, faults_of, due_of, has_cell, loses_none, told_of, bank_of, signs_in, bank_view}
use Rattle.endorser_cell.proofs.Cells.{found_id, cell_of_put}
use Rattle.endorser_cell.proofs.Served.{Grows, logged, noted_line, served_longer, served_kept}
use Rattle.endorser_cell.proofs.Counts.{above, one, losses_at, losses_elsewhere, same_bytes, put_found, any_found, lossless, lossless_put, count_at, count_elsewhere, Alike, signs_put}

module _ {S C : Type 0} where
  module _ (key : S → List ℕ) (left size : S → ℕ) (signs : S → List ℕ → List ℕ → S → Type 0) (fit : S → C → Type 0) where
    pub alike : (cell after : EndorserCell S C) (log longer : List BankLine) (number id : ℕ) (call : Call) (heard : Heard)
        → AsksCell key left size signs fit cell after log longer number id call heard → Alike key cell after (one heard)
    alike cell after log longer number id call (Answered answer) h =
        let same = h.answers.same_losses in
        let a = ap (λ (l : Losses). l.lost) same in
        let b = ap (λ (l : Losses). l.requests) same in
        let d = ap (λ (l : Losses). l.replies) same in
        record { same_id = h.answers.same_id; same_checker = h.answers.same_checker; same_key = h.answers.same_key; lost = omega (arith, a); due = omega (arith, b, d) }
    alike cell after log longer number id call Lost (inl h) =
        let a = ap (λ (x : EndorserCell S C). x.losses.lost) h.stays in
        let b = ap (λ (x : EndorserCell S C). x.losses.requests) h.stays in
        let d = ap (λ (x : EndorserCell S C). x.losses.replies) h.stays in
        record {
          same_id = ap (λ (x : EndorserCell S C). x.endorser.id) h.stays;
          same_checker = ap (λ (x : EndorserCell S C). x.endorser.checker) h.stays;
          same_key = ap (λ (x : EndorserCell S C). key x.endorser.signer) h.stays;
          lost = omega (arith, a, h.lost.2);
          due = omega (arith, b, d, h.lost.0, h.lost.1);
        }
    alike cell after log longer number id call Lost (inr h) =
        let a = ap (λ (x : EndorserCell S C). x.losses.lost) h.goes in
        let b = ap (λ (x : EndorserCell S C). x.losses.requests) h.goes in
        let d = ap (λ (x : EndorserCell S C). x.losses.replies) h.goes in
        record {
          same_id = ap (λ (x : EndorserCell S C). x.endorser.id) h.goes ∙ h.answers.same_id;
          same_checker = ap (λ (x : EndorserCell S C). x.endorser.checker) h.goes ∙ h.answers.same_checker;
          same_key = ap (λ (x : EndorserCell S C). key x.endorser.signer) h.goes ∙ h.answers.same_key;
          lost = omega (arith, a, h.lost.2);
          due = omega (arith, b, d, h.lost.0, h.lost.1);
        }
    alike cell after log longer number id call NoMemory h =
        let a = ap (λ (x : EndorserCell S C). x.losses.lost) h.0 in
        let b = ap (λ (x : EndorserCell S C). x.losses.requests) h.0 in
        let d = ap (λ (x : EndorserCell S C). x.losses.replies) h.0 in
        record {
          same_id = ap (λ (x : EndorserCell S C). x.endorser.id) h.0;
          same_checker = ap (λ (x : EndorserCell S C). x.endorser.checker) h.0;
          same_key = ap (λ (x : EndorserCell S C). key x.endorser.signer) h.0;
          lost = omega (arith, a);
          due = omega (arith, b, d);
        }

    module _ (accepts : C → List ℕ → List ℕ → List ℕ → Bool)
        (law : (signer after : S) (checker : C) (bytes sig : List ℕ) → fit signer checker → signs signer bytes sig after → accepts checker (key signer) bytes sig ≡ true) where
      -- what a call notes of itself
      record Notes (fresh : Bool) (log longer : List BankLine) (number id : ℕ) (call : Call) (heard : Heard) : Type 0 where
        pub grows : Grows log longer
        pub made : WasLogged longer number id call heard
        pub serves : IsServing (served_by [] log) id call heard (served_by [] longer)

      cell_notes : (fresh : Bool) (cell after : EndorserCell S C) (log longer : List BankLine) (number id : ℕ) (call : Call) (heard : Heard)
          → AsksCell key left size signs fit cell after log longer number id call heard → Notes fresh log longer number id call heard
      cell_notes fresh cell after log longer number id call (Answered answer) h =
          let line : BankLine = asked_line (Some number) id call answer true in
          record {
            grows = inr (line, h.noted);
            made = noted_line log longer line number id call (Answered answer) h.noted (record { number = refl; id = refl; call = refl; heard = refl });
            serves = served_longer log longer line h.noted ∙ served_kept (served_by [] log) id call answer;
          }
      cell_notes fresh cell after log longer number id call Lost (inl h) =
          let line : BankLine = unserved number id call in
          record {
            grows = inr (line, h.noted);
            made = noted_line log longer line number id call Lost h.noted (record { number = refl; id = refl; call = refl; heard = refl });
            serves = inl (served_longer log longer line h.noted);
          }
      cell_notes fresh cell after log longer number id call Lost (inr h) =
          let line : BankLine = asked_line (Some number) id call h.answer false in
          record {
            grows = inr (line, h.noted);
            made = noted_line log longer line number id call Lost h.noted (record { number = refl; id = refl; call = refl; heard = refl });
            serves = inr (h.answer, served_longer log longer line h.noted ∙ served_kept (served_by [] log) id call h.answer);
          }
      cell_notes fresh cell after log longer number id call NoMemory h = record { grows = inl h.1; made = inl refl; serves = ap (served_by []) h.1 }

      none_notes : (fresh : Bool) (log longer : List BankLine) (number id : ℕ) (call : Call) (heard : Heard) → IsNoted log longer (unserved number id call) heard → Notes fresh log longer number id call heard
      none_notes fresh log longer number id call Lost noted =
          let line : BankLine = unserved number id call in
          record {
            grows = inr (line, noted);
            made = noted_line log longer line number id call Lost noted (record { number = refl; id = refl; call = refl; heard = refl });
            serves = inl (served_longer log longer line noted);
          }
      none_notes fresh log longer number id call NoMemory noted = record { grows = inl noted; made = inl refl; serves = ap (served_by []) noted }
      none_notes fresh log longer number id call (Answered answer) noted = absurd noted

      -- the signature is one that the bank's endorsers make
      sig_made : (cells : List (EndorserCell S C)) (id : ℕ) (cell : EndorserCell S C) (new : S) (asked : Option Statement) (sig : Option (List ℕ)) → cell_of cells id ≡ Some cell
          → fit cell.endorser.signer cell.endorser.checker → SignerSigned key left size signs asked sig cell.endorser.signer new
          → HasSigned (signs_in key left accepts cells) (key cell.endorser.signer) asked sig (left cell.endorser.signer) (left new)
      sig_made cells id cell new None sig found fits (none, same) = (none, ap left same)
      sig_made cells id cell new (Some statement) None found fits (spent, same) = (spent, ap left same)
      sig_made cells id cell new (Some statement) (Some sig) found fits (signed, rest) =
          let k : List ℕ = key cell.endorser.signer in
          let bytes : List ℕ = statement_bytes statement in
          let ok : accepts cell.endorser.checker k bytes sig ≡ true = law cell.endorser.signer new cell.endorser.checker bytes sig fits signed in (
            any_found (λ (x : EndorserCell S C). bytes_eq k (key x.endorser.signer) && accepts x.endorser.checker k bytes sig) cells id cell found
                (ap (λ (b : Bool). b && accepts cell.endorser.checker k bytes sig) (same_bytes k) ∙ ok),
            rest.some,
            rest.no_more,
            rest.one,
          )

      pub told_serves : (cells : List (EndorserCell S C)) (id : ℕ) (cell after : EndorserCell S C) (call : Call) (answer : Answer) → cell_of cells id ≡ Some cell → Calls key left size signs fit cell after call answer
          → Serves (signs_in key left accepts cells) (told_of key left accepts cell) call answer (told_of key left accepts after)
      told_serves cells id cell after call answer found calls =
          elim (above cell.left) [
            | inl none ↦ inl (none, calls.full none, ap (told_of key left accepts) (calls.stays none))
            | inr some ↦
                let goes = calls.goes some in
                let stamp = calls.stamp some in
                inr (record {
                  sig = goes.table.sig;
                  table = goes.table.goes;
                  signed = sig_made cells id cell after.endorser.signer _ goes.table.sig found calls.fits goes.table.signer;
                  stamp = sym stamp;
                  same = λ k. record { id = calls.same_id k; key = calls.same_key k };
                })
          ]

      pub bank_put : (cells : List (EndorserCell S C)) (id : ℕ) (cell after : EndorserCell S C) → cell_of cells id ≡ Some cell → after.endorser.id ≡ id
          → ◌≡◌ {A = Bank} (bank_of key left accepts (put_cell cells id after)) (put_told (bank_of key left accepts cells) id (told_of key left accepts after))
      bank_put cells id cell after found same = fun_ext (λ other.
          ap (option_map (told_of key left accepts)) (cell_of_put cells id cell after found same other) ∙ chosen (eqb other id) (cell_of cells other)) where
            chosen : (b : Bool) (o : Option (EndorserCell S C)) → option_map (told_of key left accepts) (cond b (Some after) o) ≡ cond b (Some (told_of key left accepts after)) (option_map (told_of key left accepts) o)
            chosen true o = refl
            chosen false o = refl

      -- what is heard where no call is to be lost
      cell_faithful : (cells : List (EndorserCell S C)) (id : ℕ) (cell after : EndorserCell S C) (log longer : List BankLine) (number : ℕ) (call : Call) (heard : Heard)
          → cell_of cells id ≡ Some cell → loses_none cells ≡ true → AsksCell key left size signs fit cell after log longer number id call heard
          → (loses_none (put_cell cells id after) ≡ true) × IsFaithful (signs_in key left accepts cells) (bank_of key left accepts cells) id call heard (bank_of key left accepts (put_cell cells id after))
      cell_faithful cells id cell after log longer number call (Answered answer) found none h =
          let own = lossless cells id cell none found in
          let a = ap (λ (l : Losses). l.requests) h.answers.same_losses in
          let b = ap (λ (l : Losses). l.replies) h.answers.same_losses in
          let faithful : IsFaithful (signs_in key left accepts cells) (bank_of key left accepts cells) id call (Answered answer) (bank_of key left accepts (put_cell cells id after)) = (
            told_of key left accepts cell,
            told_of key left accepts after,
            ap (option_map (told_of key left accepts)) found,
            told_serves cells id cell after call answer found h.answers,
            bank_put cells id cell after found (h.answers.same_id ∙ found_id cells id cell found),
          ) in
          (lossless_put cells id after none (a ∙ own.0, b ∙ own.1), faithful)
      cell_faithful cells id cell after log longer number call Lost found none (inl h) =
          let own = lossless cells id cell none found in absurd (omega (arith, own.0, h.lost.0))
      cell_faithful cells id cell after log longer number call Lost found none (inr h) =
          let own = lossless cells id cell none found in absurd (omega (arith, own.1, h.lost.1))
      cell_faithful cells id cell after log longer number call NoMemory found none h =
          let own = lossless cells id cell none found in
          let same : put_cell cells id after ≡ cells = ap (put_cell cells id) h.0 ∙ put_found cells id cell found in
          (ap loses_none same ∙ none, ap (bank_of key left accepts) same)

      none_faithful : (cells : List (EndorserCell S C)) (log longer : List BankLine) (number id : ℕ) (call : Call) (heard : Heard) → cell_of cells id ≡ None → IsNoted log longer (unserved number id call) heard
          → IsFaithful (signs_in key left accepts cells) (bank_of key left accepts cells) id call heard (bank_of key left accepts cells)
      none_faithful cells log longer number id call Lost none noted = (ap (option_map (told_of key left accepts)) none, refl)
      none_faithful cells log longer number id call NoMemory none noted = refl
      none_faithful cells log longer number id call (Answered answer) none noted = absurd noted

      told_is : (b : Bool) (x y : Bank) → (if b then Some x else None) ≡ Some y → (b ≡ true) × (x ≡ y)
      told_is true x y e = (refl, cc e)
      told_is false x y e = absurd cc

      served_is : (b : Bool) (x y : List Served) → (if b then Some x else None) ≡ Some y → (b ≡ true) × (x ≡ y)
      served_is true x y e = (refl, cc e)
      served_is false x y e = absurd cc

      serving_from : (past past' : List Served) (id : ℕ) (call : Call) (heard : Heard) (after : List Served) → past ≡ past' → IsServing past id call heard after → IsServing past' id call heard after
      serving_from past past' id call heard after e s = subst (λ (l : List Served). IsServing l id call heard after) e s

      module _ (old new : CellBank S C) (id : ℕ) (call : Call) (heard : Heard) (counted : new.calls ≡ next old.calls) (same_fresh : new.fresh ≡ old.fresh) where
        abbrev pub view : CellBank S C → LinkView
        view = bank_view key left accepts

        -- what was served, by what is noted
        served_step : Notes old.fresh old.log new.log old.calls id call heard → (past : List Served) → (view old).served ≡ Some past → (after : List Served) × ((view new).served ≡ Some after) × IsServing past id call heard after
        served_step notes past tells =
            let is = served_is old.fresh (served_by [] old.log) past tells in (
              served_by [] new.log,
              ap (λ (b : Bool). cond b (Some (served_by [] new.log)) None) (same_fresh ∙ is.0),
              serving_from (served_by [] old.log) past id call heard (served_by [] new.log) is.1 notes.serves,
            )

        reached : Reaches key left size signs fit old.cells new.cells old.log new.log old.calls id call heard → LinkStep view old new id call heard
        reached r =
            let like = alike r.cell r.next old.log new.log old.calls id call heard r.asks in
            let notes = cell_notes old.fresh r.cell r.next old.log new.log old.calls id call heard r.asks in
            let same : r.next.endorser.id ≡ id = like.same_id ∙ found_id old.cells id r.cell r.found in
            let lost_at : faults_of new.cells id ≡ r.next.losses.lost = ap (λ (l : List (EndorserCell S C)). faults_of l id) r.put ∙ count_at (λ l. l.lost) old.cells id r.cell r.next r.found same in
            let lost_before : faults_of old.cells id ≡ r.cell.losses.lost = ap (count_of (λ l. l.lost)) r.found in
            let due_at : due_of new.cells id ≡ r.next.losses.requests + r.next.losses.replies = ap (λ (l : List (EndorserCell S C)). due_of l id) r.put ∙ count_at (λ l. l.requests + l.replies) old.cells id r.cell r.next r.found same in
            let due_before : due_of old.cells id ≡ r.cell.losses.requests + r.cell.losses.replies = ap (count_of (λ l. l.requests + l.replies)) r.found in
            record {
              later = λ other. elim (eqb_tells other id) [
                | inl here ↦
                    let at : faults_of old.cells id ≤ faults_of new.cells id = omega (arith, lost_at, lost_before, like.lost) in
                    subst (λ (i : ℕ). faults_of old.cells i ≤ faults_of new.cells i) (sym here.1) at
                | inr apart ↦
                    let e : faults_of new.cells other ≡ faults_of old.cells other =
                    ap (λ (l : List (EndorserCell S C)). faults_of l other) r.put ∙ count_elsewhere (λ l. l.lost) old.cells id r.cell r.next r.found same other apart.0 in
                    omega (arith, e)
              ];
              lost = λ e.
                  let n : one heard ≡ 1 = ap one e in
                  let at : faults_of old.cells id < faults_of new.cells id = omega (arith, lost_at, lost_before, like.lost, n) in
                  inl at;
              same_ids = λ other.
                  ap (λ (l : List (EndorserCell S C)). has_cell l other) r.put
                  ∙ elim (eqb_tells other id) [
                    | inl here ↦
                        ap is_some (cell_of_put old.cells id r.cell r.next r.found same other ∙ ap (λ (b : Bool). cond b (Some r.next) (cell_of old.cells other)) here.0)
                        ∙ sym (ap is_some (ap (λ (i : ℕ). cell_of old.cells i) here.1 ∙ r.found))
                    | inr apart ↦ ap is_some (cell_of_put old.cells id r.cell r.next r.found same other ∙ ap (λ (b : Bool). cond b (Some r.next) (cell_of old.cells other)) apart.0)
                  ];
              same_signs = ap (signs_in key left accepts) r.put ∙ signs_put key left accepts old.cells id r.cell r.next (one heard) r.found like;
              counted = counted;
              made = notes.made;
              keeps = logged old.log new.log notes.grows;
              faithful = λ bank tells.
                  let is = told_is (loses_none old.cells) (bank_of key left accepts old.cells) bank tells in
                  let f = cell_faithful old.cells id r.cell r.next old.log new.log old.calls call heard r.found is.0 r.asks in (
                    bank_of key left accepts new.cells,
                    ap (λ (b : Bool). cond b (Some (bank_of key left accepts new.cells)) None) (ap loses_none r.put ∙ f.0),
                    subst (λ (b : Bank). IsFaithful (signs_in key left accepts old.cells) b id call heard (bank_of key left accepts new.cells)) is.1
                        (subst (λ (l : List (EndorserCell S C)). IsFaithful (signs_in key left accepts old.cells) (bank_of key left accepts old.cells) id call heard (bank_of key left accepts l)) (sym r.put) f.1),
                  );
              serves = served_step notes;
              due = λ before tells.
                  let is : due_of old.cells ≡ before = cc tells in (
                    due_of new.cells,
                    refl,
                    λ other has.
                        sym (ap (λ (d : ℕ → ℕ). d other) is)
                        ∙ elim (eqb_tells other id) [
                          | inl here ↦
                              let at : due_of old.cells id ≡ due_of new.cells id + one heard = omega (arith, due_at, due_before, like.due) in
                              subst (λ (i : ℕ). due_of old.cells i ≡ due_of new.cells i + losses id heard i) (sym here.1) (at ∙ ap (λ (n : ℕ). due_of new.cells id + n) (sym (losses_at id heard)))
                          | inr apart ↦
                              let e : due_of new.cells other ≡ due_of old.cells other =
                              ap (λ (l : List (EndorserCell S C)). due_of l other) r.put ∙ count_elsewhere (λ l. l.requests + l.replies) old.cells id r.cell r.next r.found same other apart.0 in
                              let n : losses id heard other ≡ 0 = losses_elsewhere id other heard apart.0 in
                              omega (arith, e, n)
                        ],
                  );
            }

        missed : NoOne old.cells new.cells old.log new.log old.calls id call heard → LinkStep view old new id call heard
        missed r =
            let notes = none_notes old.fresh old.log new.log old.calls id call heard r.noted in
            let faults : (other : ℕ) → faults_of new.cells other ≡ faults_of old.cells other = λ other. ap (λ (l : List (EndorserCell S C)). faults_of l other) r.stays in
            record {
              later = λ other. let e = faults other in omega (arith, e);
              lost = λ e. inr (ap is_some r.none);
              same_ids = λ other. ap (λ (l : List (EndorserCell S C)). has_cell l other) r.stays;
              same_signs = ap (signs_in key left accepts) r.stays;
              counted = counted;
              made = notes.made;
              keeps = logged old.log new.log notes.grows;
              faithful = λ bank tells.
                  let is = told_is (loses_none old.cells) (bank_of key left accepts old.cells) bank tells in
                  let f = none_faithful old.cells old.log new.log old.calls id call heard r.none r.noted in (
                    bank_of key left accepts new.cells,
                    ap (λ (b : Bool). cond b (Some (bank_of key left accepts new.cells)) None) (ap loses_none r.stays ∙ is.0),
                    subst (λ (b : Bank). IsFaithful (signs_in key left accepts old.cells) b id call heard (bank_of key left accepts new.cells)) is.1
                        (subst (λ (l : List (EndorserCell S C)). IsFaithful (signs_in key left accepts old.cells) (bank_of key left accepts old.cells) id call heard (bank_of key left accepts l)) (sym r.stays) f),
                  );
              serves = served_step notes;
              due = λ before tells.
                  let is : due_of old.cells ≡ before = cc tells in (
                    due_of new.cells,
                    refl,
                    λ other has.
                        let e : due_of new.cells other ≡ due_of old.cells other = ap (λ (l : List (EndorserCell S C)). due_of l other) r.stays in
                        sym (ap (λ (d : ℕ → ℕ). d other) is)
                        ∙ elim (eqb_tells other id) [
                          | inl here ↦ absurd (cc (sym (ap is_some (ap (λ (i : ℕ). cell_of old.cells i) here.1 ∙ r.none)) ∙ has))
                          | inr apart ↦ let n : losses id heard other ≡ 0 = losses_elsewhere id other heard apart.0 in omega (arith, e, n)
                        ],
                  );
            }

        pub link_step : Asks key left size signs fit old.cells new.cells old.log new.log old.calls id call heard → LinkStep view old new id call heard
        link_step (inl r) = reached r
        link_step (inr r) = missed r
