-- Endorsers that were told to begin in no other view than this.
use Rattle.std.proofs.Common.{◌≡◌, inl, inr, ℕ, Bool, true, false, List, [], ◌∷◌, ◌++◌, if◌then◌else◌, map, Some, None, refl, sym, ap, subst, ◌∙◌}
use Rattle.std.specs.List.{AllByRecursion}
use Rattle.port.specs.Answer.{Answer, Behind, BadProof, BadView, Denial, Done, Finaled, Full, HasEnded, LogFull, NotGenesis, NotMember, OtherNext, OtherTail, Refused, Shown, Signed, Spent, Stands, Tall, WrongPhase, kept}
use Rattle.port.specs.Call.{Call}
use Rattle.port.specs.Heard.{Heard, Answered, Lost, NoMemory}
use Rattle.port.specs.Link.{IsServing, LinkStep, Served, served_after}
use Rattle.port.specs.Store.{StoreView}
use Rattle.port.specs.Trace.{Event, AtStore, AtLink, Ran}
use Rattle.view_ledger.specs.Receipts.{Accepts}
use Rattle.endorser_cell.specs.BankLine.{BankLine, asked_line, served_by, serving}
use Rattle.endorser_cell.specs.CellBank.{CellBank, bank_view}
use Rattle.script_runs.proofs.Still.{AreStill, BeginsIn}

abbrev pub BeginIn : List ℕ → List Served → Type 0
BeginIn view served = AllByRecursion (λ (one : Served). BeginsIn view one.call) served

-- all calls that the endorsers served are known, and begin in no other view
pub record ServedIn {S C : Type 0} (view : List ℕ) (bank : CellBank S C) : Type 0 where
  pub fresh : bank.fresh ≡ true
  pub calls : BeginIn view (served_by [] bank.log)

module _ (view : List ℕ) where
  refused_more : (past : List Served) (id : ℕ) (call : Call) (denial : Denial) → BeginsIn view call → BeginIn view past → BeginIn view (served_after past id call (Refused denial))
  refused_more past id call (Behind count) begins all = (begins, all)
  refused_more past id call (Stands count tail) begins all = (begins, all)
  refused_more past id call (OtherTail tail) begins all = (begins, all)
  refused_more past id call NotGenesis begins all = (begins, all)
  refused_more past id call Full begins all = (begins, all)
  refused_more past id call Tall begins all = (begins, all)
  refused_more past id call NotMember begins all = (begins, all)
  refused_more past id call BadView begins all = (begins, all)
  refused_more past id call (BadProof cause) begins all = (begins, all)
  refused_more past id call (WrongPhase phase) begins all = (begins, all)
  refused_more past id call (HasEnded statement sig) begins all = (begins, all)
  refused_more past id call (OtherNext next) begins all = (begins, all)
  refused_more past id call Spent begins all = (begins, all)
  refused_more past id call LogFull begins all = all

  served_more : (past : List Served) (id : ℕ) (call : Call) (answer : Answer) → BeginsIn view call → BeginIn view past → BeginIn view (served_after past id call answer)
  served_more past id call Done begins all = (begins, all)
  served_more past id call (Signed statement sig) begins all = (begins, all)
  served_more past id call (Finaled statement sig map) begins all = (begins, all)
  served_more past id call (Shown phase number tail count) begins all = (begins, all)
  served_more past id call (Refused denial) begins all = refused_more past id call denial begins all

  serving_more : (past after : List Served) (id : ℕ) (call : Call) (heard : Heard) → BeginsIn view call → BeginIn view past → IsServing past id call heard after → BeginIn view after
  serving_more past after id call (Answered answer) begins all is = subst (BeginIn view) (sym is) (served_more past id call answer begins all)
  serving_more past after id call Lost begins all (inl is) = subst (BeginIn view) (sym is) all
  serving_more past after id call Lost begins all (inr (answer, is)) = subst (BeginIn view) (sym is) (served_more past id call answer begins all)
  serving_more past after id call NoMemory begins all is = subst (BeginIn view) (sym is) all

told_if : (fresh : Bool) (served after : List Served) → (if fresh then Some served else None) ≡ Some after → (fresh ≡ true) × (served ≡ after)
told_if true served after is = (refl, cc is)
told_if false served after is = absurd (cc is)

module _ {S C : Type 0} (key : S → List ℕ) (left : S → ℕ) (accepts : C → Accepts) (view : List ℕ) where
  step_in : (old new : CellBank S C) (id : ℕ) (call : Call) (heard : Heard) → LinkStep (bank_view key left accepts) old new id call heard → BeginsIn view call → ServedIn view old → ServedIn view new
  step_in old new id call heard step begins holds =
      let told : (bank_view key left accepts old).served ≡ Some (served_by [] old.log) = ap (λ (b : Bool). if b then Some (served_by [] old.log) else None) holds.fresh in
      let went = step.serves (served_by [] old.log) told in
      let known = told_if new.fresh (served_by [] new.log) went.0 went.1 in
      record { fresh = known.0; calls = subst (BeginIn view) (sym known.1) (serving_more view (served_by [] old.log) went.0 id call heard begins holds.calls went.2) }

  pub ran_in : {X : Type 0} (sv : X → StoreView) (s s' : X) (l l' : CellBank S C) (events : List Event) → Ran sv (bank_view key left accepts) s l events s' l' → AreStill view events → ServedIn view l
      → ServedIn view l'
  ran_in sv s s' l l' [] ran still holds = subst (ServedIn view) (sym ran.1) holds
  ran_in sv s s' l l' (AtStore call answer ∷ past) (m, k, ran, step) still holds = subst (ServedIn view) (sym step.1) (ran_in sv s m l k past ran still.1 holds)
  ran_in sv s s' l l' (AtLink id call heard ∷ past) (m, k, ran, step) still holds = step_in k l' id call heard step.0 still.0 (ran_in sv s m l k past ran still.1 holds)

served_append : (past : List Served) (log more : List BankLine) → served_by past (log ++ more) ≡ served_by (served_by past log) more
served_append past [] more = refl
served_append past (line ∷ log) more = served_append (serving line line.answer past) log more

kept_more : (view : List ℕ) (past : List Served) (id : ℕ) (call : Call) (answer : Answer) → BeginsIn view call → BeginIn view past → BeginIn view (served_after past id call (kept answer))
kept_more view past id call answer begins all = served_more view past id call (kept answer) begins all

-- an endorser was asked directly
pub raw_in : {S C : Type 0} (view : List ℕ) (old new : CellBank S C) (id : ℕ) (call : Call) (answer : Answer) → new.log ≡ old.log ++ asked_line None id call answer true ∷ [] → new.fresh ≡ old.fresh → BeginsIn view call
    → ServedIn view old → ServedIn view new
raw_in view old new id call answer noted fresh begins holds =
    let same : served_by [] new.log ≡ served_after (served_by [] old.log) id call (kept answer) = ap (λ (log : List BankLine). served_by [] log) noted ∙ served_append [] old.log (asked_line None id call answer true ∷ []) in
    record { fresh = fresh ∙ holds.fresh; calls = subst (BeginIn view) (sym same) (kept_more view (served_by [] old.log) id call answer begins holds.calls) }

-- the list of calls is as it was
pub same_in : {S C : Type 0} (view : List ℕ) (old new : CellBank S C) → new.log ≡ old.log → new.fresh ≡ old.fresh → ServedIn view old → ServedIn view new
same_in view old new log fresh holds =
    record { fresh = fresh ∙ holds.fresh; calls = subst (λ (lines : List BankLine). BeginIn view (served_by [] lines)) (sym log) holds.calls }
