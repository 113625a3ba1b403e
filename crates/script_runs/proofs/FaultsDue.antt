-- Which failures of a store are due: each call takes those that it is, and lines add what they ask for.
use Rattle.std.proofs.Common.{◌≡◌, ◌≤◌, ◌+◌, ℕ, true, List, Err, refl, ap, arith}
use Rattle.blob_store.specs.declared.lying_store.LyingStore.{LyingStore}
use Rattle.blob_store.specs.LyingStore.{held_in, lying_view}
use Rattle.port.specs.declared.store_answers.Put.TheVariants as puts
use Rattle.port.specs.declared.store_answers.Got.TheVariants as gots
use Rattle.port.specs.declared.store_answers.Attached.TheVariants as attaches
use Rattle.port.specs.Cause.{Cause, IsShown, StoreFault}
use Rattle.port.specs.Store.{StoreAnswer, WasAttached, WasGot, WasPut, failures, is_failed}
use Rattle.port.specs.Trace.{AtLink, AtStore, Event, Happened}
use Rattle.view_ledger.specs.Receipts.{Accepts}
use Rattle.view_ledger.specs.Views.{ViewChain}
use Rattle.endorser_cell.specs.CellBank.{CellBank, bank_view}
use Rattle.op_entry.specs.Ask.{Ask}
use Rattle.op_entry.specs.Says.{Says as EntrySays}
use Rattle.op_latest.specs.LatestAsked.{LatestAsk}
use Rattle.op_latest.specs.LatestSays.{LatestSays}
use Rattle.script_runs.specs.AskedFor.{faults_asked, faults_told}
use Rattle.script_runs.proofs.AskedFacts.{IsAsking}
use Rattle.script_runs.proofs.Measured.{IsMeasure, weighed, weighed_had}

-- What lower parts promise of refusals: the calls that came to one show its cause.
pub record ShownLaws : Type 0 where
  pub entry : (accepts : Accepts) (ask : Ask) (from chain : ViewChain) (past : List Event) (cause : Cause) → EntrySays accepts ask from chain past (Err cause) → IsShown past cause
  pub read : (accepts : Accepts) (ask : LatestAsk) (chain : ViewChain) (past : List Event) (cause : Cause) → LatestSays accepts ask chain past (Err cause) → IsShown past cause

-- how many failures of the store a call is
abbrev pub fault_of : Event → ℕ
fault_of (AtStore call answer) = failures answer
fault_of (AtLink id call heard) = 0

failed_once : (answer : StoreAnswer) → is_failed answer ≡ true → failures answer ≡ 1
failed_once (WasPut puts.Failed) failed = refl
failed_once (WasGot gots.Failed) failed = refl
failed_once (WasAttached attaches.Failed) failed = refl
failed_once answer failed = absurd (cc failed)

shown_failed : (past : List Event) (cause : Cause) → IsShown past cause → faults_told cause ≤ weighed fault_of past
shown_failed past StoreFault (call, answer, had, failed) =
    let one = failed_once answer failed in
    let less = weighed_had fault_of past (AtStore call answer) had in
    omega (arith, one, less)
shown_failed past cause shown = omega arith

module _ {S C : Type 0} (key : S → List ℕ) (left size : S → ℕ) (signs : S → List ℕ → List ℕ → S → Type 0) (fit : S → C → Type 0) (accepts : C → Accepts) (checks : Accepts) where
  abbrev pub FaultsDue : LyingStore → CellBank S C → ℕ
  FaultsDue s l = (held_in s).due

  abbrev pub Always : LyingStore → CellBank S C → Type 0
  Always s l = Unit {0}

  call_due : (s s' : LyingStore) (l l' : CellBank S C) (event : Event) → Happened lying_view (bank_view key left accepts) s l event s' l' → Always s l → (FaultsDue s l ≡ FaultsDue s' l' + fault_of event) × Always s' l'
  call_due s s' l l' (AtStore call answer) (step, same) fits =
      let went = step.follows (held_in s) refl in
      let is : held_in s' ≡ went.0 = cc went.1 in
      let d : (held_in s').due ≡ went.0.due = ap (λ t. t.due) is in
      let less = went.2.due in
      (omega (arith, d, less), tt)
  call_due s s' l l' (AtLink id call heard) (step, same) fits =
      let d : (held_in s').due ≡ (held_in s).due = ap (λ (x : LyingStore). (held_in x).due) same in
      (omega (arith, d), tt)

  module _ (laws : ShownLaws) where
    pub faults_measure : IsMeasure key left accepts faults_told fault_of FaultsDue Always
    faults_measure = record {
      one = call_due;
      entry = λ accepted ask from chain past cause says. shown_failed past cause (laws.entry accepted ask from chain past cause says);
      read = λ accepted ask chain past cause says. shown_failed past cause (laws.read accepted ask chain past cause says);
      first = λ accepted from chain past cause did. shown_failed past cause did.shown;
      memory = refl;
    }

  pub faults_asking : IsAsking key left size signs fit accepts checks fault_of FaultsDue Always faults_asked
  faults_asking = record {
    request = λ s old new id n loses fits. (omega arith, tt);
    reply = λ s old new id n loses fits. (omega arith, tt);
    raw = λ s old new id call answer asks fits. (omega arith, tt);
    fail = λ l old new n is fits. (omega (arith, is), tt);
    lie = λ l old new is fits. (omega (arith, is), tt);
  }
