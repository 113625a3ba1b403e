-- What calls leave of who the endorsers of a bank are.
use Rattle.std.proofs.Common.{◌≡◌, ◌⊎◌, ℕ, Bool, cond, List, [], ◌∷◌, Option, Some, None, Result, Ok, Err, inl, inr, refl, sym, ap, subst, ◌∙◌}
use Rattle.std.specs.Prelude.{IfOk}
use Rattle.std.specs.List.{AllByRecursion}
use Rattle.std.proofs.lemmas.Bool.Decides.{eqb_tells}
use Rattle.nim_base.specs.declared.no_memory.NoMemory.{NoMemory as WantOfMemory}
use Rattle.statement.specs.declared.member.Member.{Member}
use Rattle.statement.specs.Config.{ids}
use Rattle.port.specs.declared.endorser_answer.EndorserAnswer.{EndorserAnswer}
use Rattle.port.specs.Call.{Call}
use Rattle.port.specs.Heard.{Heard, Answered, Lost, NoMemory}
use Rattle.view_ledger.specs.Receipts.{Accepts}
use Rattle.endorser_core.specs.Endorser.{me}
use Rattle.endorser_core.specs.Line.{Line, IsLawful}
use Rattle.endorser_cell.specs.declared.losses.Loss.{Loss}
use Rattle.endorser_cell.specs.EndorserCell.{EndorserCell, Calls, IsLawfulOf}
use Rattle.endorser_cell.specs.BankLine.{BankLine}
use Rattle.endorser_cell.specs.Cells.{cell_of, put_cell}
use Rattle.endorser_cell.specs.Asking.{AsksCell, Asks, IsRaw, LosesMore}
use Rattle.endorser_cell.specs.CellBank.{CellBank}
use Rattle.client_pass.specs.Record.{AreLawful}
use Rattle.roster_bank.specs.Roster.{members_of, lists_of, AllAccept, IsRoster}
use Rattle.roster_bank.proofs.Known.{AreKnown, link_known, raw_known}

module _ {S C : Type 0} (key : S → List ℕ) where
  -- a cell takes another's place, whose endorser has the same id, key and checker
  pub record IsSame (old new : EndorserCell S C) : Type 0 where
    pub member : me key new.endorser ≡ me key old.endorser
    pub checker : new.endorser.checker ≡ old.endorser.checker

  same_of : (old new : EndorserCell S C) → new ≡ old → IsSame old new
  same_of old new e = record { member = ap (λ (c : EndorserCell S C). me key c.endorser) e; checker = ap (λ (c : EndorserCell S C). c.endorser.checker) e }

  put_members : (cells : List (EndorserCell S C)) (id : ℕ) (cell next : EndorserCell S C) → cell_of cells id ≡ Some cell → IsSame cell next → members_of key (put_cell cells id next) ≡ members_of key cells
  put_members [] id cell next e same = absurd cc
  put_members (first ∷ cells) id cell next e same =
      elim (eqb_tells first.endorser.id id) [
        | inl here ↦
            let is : first ≡ cell = cc (sym (ap (λ (b : Bool). cond b (Some first) (cell_of cells id)) here.0) ∙ e) in
            ap (λ (b : Bool). members_of key (cond b (next ∷ cells) (first ∷ put_cell cells id next))) here.0
            ∙ ap (λ (m : Member). m ∷ members_of key cells) (same.member ∙ ap (λ (c : EndorserCell S C). me key c.endorser) (sym is))
        | inr differs ↦
            let rest = put_members cells id cell next (sym (ap (λ (b : Bool). cond b (Some first) (cell_of cells id)) differs.0) ∙ e) same in
            ap (λ (b : Bool). members_of key (cond b (next ∷ cells) (first ∷ put_cell cells id next))) differs.0
            ∙ ap (λ (ms : List Member). me key first.endorser ∷ ms) rest
      ]

  put_accept : (accepts : C → Accepts) (accepted : Accepts) (cells : List (EndorserCell S C)) (id : ℕ) (cell next : EndorserCell S C)
      → cell_of cells id ≡ Some cell → IsSame cell next → AllAccept accepts accepted cells → AllAccept accepts accepted (put_cell cells id next)
  put_accept accepts accepted [] id cell next e same all = absurd cc
  put_accept accepts accepted (first ∷ cells) id cell next e same all =
      elim (eqb_tells first.endorser.id id) [
        | inl here ↦
            let is : first ≡ cell = cc (sym (ap (λ (b : Bool). cond b (Some first) (cell_of cells id)) here.0) ∙ e) in
            subst (λ (b : Bool). AllAccept accepts accepted (cond b (next ∷ cells) (first ∷ put_cell cells id next))) (sym here.0)
            (ap accepts (same.checker ∙ ap (λ (c : EndorserCell S C). c.endorser.checker) (sym is)) ∙ all.0, all.1)
        | inr differs ↦
            let rest = put_accept accepts accepted cells id cell next (sym (ap (λ (b : Bool). cond b (Some first) (cell_of cells id)) differs.0) ∙ e) same all.1 in
            subst (λ (b : Bool). AllAccept accepts accepted (cond b (next ∷ cells) (first ∷ put_cell cells id next))) (sym differs.0) (all.0, rest)
      ]

  module _ (accepts : C → Accepts) (members : List Member) (accepted : Accepts) where
    -- a bank with other cells of the same endorsers
    pub put_roster : (old new : CellBank S C) (id : ℕ) (cell next : EndorserCell S C) → IsRoster key accepts members accepted old → new.fresh ≡ old.fresh
        → AreKnown (ids members) new.log → cell_of old.cells id ≡ Some cell → new.cells ≡ put_cell old.cells id next → IsSame cell next → IsRoster key accepts members accepted new
    put_roster old new id cell next roster fresh known found put same = record {
      members = ap (members_of key) put ∙ put_members old.cells id cell next found same ∙ roster.members;
      rising = roster.rising;
      accepted = subst (AllAccept accepts accepted) (sym put) (put_accept accepts accepted old.cells id cell next found same roster.accepted);
      fresh = fresh ∙ roster.fresh;
      known = known;
    }

    pub same_roster : (old new : CellBank S C) → IsRoster key accepts members accepted old → new.fresh ≡ old.fresh → AreKnown (ids members) new.log → new.cells ≡ old.cells
        → IsRoster key accepts members accepted new
    same_roster old new roster fresh known e = record {
      members = ap (members_of key) e ∙ roster.members;
      rising = roster.rising;
      accepted = subst (AllAccept accepts accepted) (sym e) roster.accepted;
      fresh = fresh ∙ roster.fresh;
      known = known;
    }

    pub lose_roster : (old new : CellBank S C) (id n : ℕ) (which : Loss) → IsRoster key accepts members accepted old → new.fresh ≡ old.fresh → new.log ≡ old.log
        → LosesMore old.cells new.cells id which n → IsRoster key accepts members accepted new
    lose_roster old new id n which roster fresh log more =
        let known : AreKnown (ids members) new.log = subst (AreKnown (ids members)) (sym log) roster.known in
        elim (maybe (cell_of old.cells id)) [
          | inl none ↦ same_roster old new roster fresh known (more.none none)
          | inr some ↦
              let set = more.some some.0 some.1 in
              put_roster old new id some.0 (record some.0 { losses = set.0 }) roster fresh known some.1 set.2 (record { member = refl; checker = refl })
        ] where
          maybe : {A : Type 0} (o : Option A) → (o ≡ None) ⊎ ((x : A) × (o ≡ Some x))
          maybe None = inl refl
          maybe (Some x) = inr (x, refl)

    module _ (left size : S → ℕ) (signs : S → List ℕ → List ℕ → S → Type 0) (fit : S → C → Type 0) where
      called : (old new : EndorserCell S C) (call : Call) (answer : _) → Calls key left size signs fit old new call answer → IsSame old new
      called old new call answer h = record { member = λ k. record { id = h.same_id k; key = h.same_key k }; checker = h.same_checker }

      asked : (cell after : EndorserCell S C) (log longer : List BankLine) (number id : ℕ) (call : Call) (heard : Heard)
          → AsksCell key left size signs fit cell after log longer number id call heard → IsSame cell after
      asked cell after log longer number id call (Answered answer) h = called cell after call answer h.answers
      asked cell after log longer number id call Lost (inl h) =
          record { member = ap (λ (c : EndorserCell S C). me key c.endorser) h.stays; checker = ap (λ (c : EndorserCell S C). c.endorser.checker) h.stays }
      asked cell after log longer number id call Lost (inr h) =
          let same = called cell h.called call h.answer h.answers in
          record {
            member = ap (λ (c : EndorserCell S C). me key c.endorser) h.goes ∙ same.member;
            checker = ap (λ (c : EndorserCell S C). c.endorser.checker) h.goes ∙ same.checker;
          }
      asked cell after log longer number id call NoMemory h = same_of cell after h.0

      link_kept : (old new : CellBank S C) (number id : ℕ) (call : Call) (heard : Heard) → IsRoster key accepts members accepted old
          → Asks key left size signs fit old.cells new.cells old.log new.log number id call heard → AreKnown (ids members) new.log
      link_kept old new number id call heard roster asks =
          subst (λ (ms : List Member). AreKnown (ids ms) new.log) roster.members
          (link_known key left size signs fit old.cells new.cells old.log new.log number id call heard (subst (λ (ms : List Member). AreKnown (ids ms) old.log) (sym roster.members) roster.known) asks)

      raw_kept : (old new : CellBank S C) (id : ℕ) (call : Call) (result : Option (Result EndorserAnswer WantOfMemory)) → IsRoster key accepts members accepted old
          → IsRaw key left size signs fit old.cells new.cells old.log new.log id call result → AreKnown (ids members) new.log
      raw_kept old new id call result roster raw =
          subst (λ (ms : List Member). AreKnown (ids ms) new.log) roster.members
          (raw_known key left size signs fit old.cells new.cells old.log new.log id call result (subst (λ (ms : List Member). AreKnown (ids ms) old.log) (sym roster.members) roster.known) raw)

      pub link_roster : (old new : CellBank S C) (number id : ℕ) (call : Call) (heard : Heard) → IsRoster key accepts members accepted old → new.fresh ≡ old.fresh
          → Asks key left size signs fit old.cells new.cells old.log new.log number id call heard → IsRoster key accepts members accepted new
      link_roster old new number id call heard roster fresh (inl h) =
          put_roster old new id h.cell h.next roster fresh (link_kept old new number id call heard roster (inl h)) h.found h.put (asked h.cell h.next old.log new.log number id call heard h.asks)
      link_roster old new number id call heard roster fresh (inr h) = same_roster old new roster fresh (link_kept old new number id call heard roster (inr h)) h.stays

      pub raw_roster : (old new : CellBank S C) (id : ℕ) (call : Call) (result : Option (Result EndorserAnswer WantOfMemory)) → IsRoster key accepts members accepted old → new.fresh ≡ old.fresh
          → IsRaw key left size signs fit old.cells new.cells old.log new.log id call result → IsRoster key accepts members accepted new
      raw_roster old new id call None roster fresh raw = same_roster old new roster fresh (raw_kept old new id call None roster raw) raw.1
      raw_roster old new id call (Some (Err e)) roster fresh raw = same_roster old new roster fresh (raw_kept old new id call (Some (Err e)) roster raw) raw.1
      raw_roster old new id call (Some (Ok answer)) roster fresh raw =
          put_roster old new id raw.cell raw.next roster fresh (raw_kept old new id call (Some (Ok answer)) roster raw) raw.found raw.put (called raw.cell raw.next call _ raw.answers)

  -- each list is lawful for its member
  pub all_lawful : (accepts : C → Accepts) (accepted : Accepts) (cells : List (EndorserCell S C))
      → AllByRecursion (λ cell. IsLawfulOf key accepts cell.endorser cell.lines) cells → AllAccept accepts accepted cells → AreLawful accepted (members_of key cells) (lists_of cells)
  all_lawful accepts accepted [] lawful all = tt
  all_lawful accepts accepted (cell ∷ cells) lawful all =
      (subst (λ (a : Accepts). IsLawful a (me key cell.endorser) cell.lines) all.0 lawful.0, all_lawful accepts accepted cells lawful.1 all.1)

  -- the lists that were taken out of a bank's cells
  pub lawful_lists : {A E : Type 0} (lists : A → List (List Line)) (accepts : C → Accepts) (accepted : Accepts) (members : List Member) (taken cells : List (EndorserCell S C)) (result : Result A E)
      → IfOk result (λ made. lists made ≡ lists_of taken) → IfOk result (λ _. AllByRecursion (λ cell. IsLawfulOf key accepts cell.endorser cell.lines) taken)
      → taken ≡ cells → members_of key cells ≡ members → AllAccept accepts accepted cells → IfOk result (λ made. AreLawful accepted members (lists made))
  lawful_lists lists accepts accepted members taken cells (Ok made) are lawful e who all =
      subst (λ (l : List (List Line)). AreLawful accepted members l) (sym are)
      (subst (λ (ms : List Member). AreLawful accepted ms (lists_of taken)) (ap (members_of key) e ∙ who)
      (all_lawful accepts accepted taken lawful (subst (AllAccept accepts accepted) (sym e) all)))
  lawful_lists lists accepts accepted members taken cells (Err error) are lawful e who all = tt
