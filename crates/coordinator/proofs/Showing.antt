-- What the calls of a coordinator show of a refusal.
use Rattle.std.proofs.Common.{◌≡◌, ◌⊎◌, inl, inr, ℕ, true, List, [], ◌∷◌, Some, None, Err, refl, sym, subst}
use Rattle.port.specs.declared.key.Key.{Key}
use Rattle.port.specs.declared.key.Key.TheVariants as keys
use Rattle.port.specs.declared.store_answers.Got.{Got}
use Rattle.port.specs.declared.store_answers.Got.TheVariants as gots
use Rattle.port.specs.Cause.{Cause, IsShown}
use Rattle.port.specs.Cause as causes
use Rattle.port.specs.Store.{Get, WasGot}
use Rattle.port.specs.Trace.{Event, AtStore}
use Rattle.view_ledger.specs.Views.{ViewChain}
use Rattle.view_ledger.specs.Receipts.{Accepts}
use Rattle.op_parts.specs.Refresh.{GaveFinals}
use Rattle.op_entry.specs.Ask.{Ask, ReadAt}
use Rattle.op_entry.specs.Refusal.{OrMemory}
use Rattle.op_entry.specs.Says.{Says}
use Rattle.op_entry.specs.Sound.{WasRefreshRefused}
use Rattle.op_latest.specs.LatestAsked.{LatestAsk}
use Rattle.op_latest.specs.LatestSays.{LatestSays}
use Rattle.coordinator.specs.Calls.{IsUnbegun}
use Rattle.coordinator.specs.Entries.{EntryServed}
use Rattle.coordinator.specs.ViewsGot.{finals_event, GaveOthers, IsFinalsRefused}
use Rattle.coordinator.specs.Views.{WasStopped, ViewsSay}

-- the laws of the operations
abbrev pub EntryShowing : Type 0
EntryShowing = (accepts : Accepts) (ask : Ask) (from chain : ViewChain) (past : List Event) (cause : Cause) → Says accepts ask from chain past (Err cause) → IsShown past cause

abbrev pub LatestShowing : Type 0
LatestShowing = (accepts : Accepts) (ask : LatestAsk) (chain : ViewChain) (past : List Event) (cause : Cause) → LatestSays accepts ask chain past (Err cause) → IsShown past cause

unbegun : (events : List Event) (cause : Cause) → IsUnbegun events (Err cause) → IsShown events cause
unbegun events causes.NoMemory is = tt
unbegun events cause is = absurd is

pub entry_shown : EntryShowing → (accepts : Accepts) (ask : Ask) (from chain : ViewChain) (events : List Event) (cause : Cause) → EntryServed accepts ask from chain events (Err cause) → IsShown events cause
entry_shown law accepts ask from chain events cause served = by_says served.says where
  by_says : IsUnbegun events (Err cause) ⊎ Says accepts ask from chain events (Err cause) → IsShown events cause
  by_says (inl is) = unbegun events cause is
  by_says (inr says) = law accepts ask from chain events cause says

-- as a read at a height would be refused
refresh_shown : EntryShowing → (accepts : Accepts) (from chain : ViewChain) (events : List Event) (cause : Cause) → WasRefreshRefused accepts from chain cause events → IsShown events cause
refresh_shown law accepts from chain events (causes.Conflict standing) was = tt
refresh_shown law accepts from chain events (causes.Gap handle missing) was = law accepts (ReadAt [] 0) from chain events (causes.Gap handle missing) (inl was)
refresh_shown law accepts from chain events (causes.NoQuorum need reasons) was = law accepts (ReadAt [] 0) from chain events (causes.NoQuorum need reasons) (inl was)
refresh_shown law accepts from chain events (causes.ViewMoved number id statement sig) was = law accepts (ReadAt [] 0) from chain events (causes.ViewMoved number id statement sig) (inl was)
refresh_shown law accepts from chain events causes.StoreFault was = law accepts (ReadAt [] 0) from chain events causes.StoreFault (inl was)
refresh_shown law accepts from chain events (causes.BadRow key bytes) was = law accepts (ReadAt [] 0) from chain events (causes.BadRow key bytes) (inl was)
refresh_shown law accepts from chain events (causes.Contended member first later) was = law accepts (ReadAt [] 0) from chain events (causes.Contended member first later) (inl was)
refresh_shown law accepts from chain events (causes.Full member) was = law accepts (ReadAt [] 0) from chain events (causes.Full member) (inl was)
refresh_shown law accepts from chain events (causes.TooFar needed) was = tt
refresh_shown law accepts from chain events (causes.Reused id) was = tt
refresh_shown law accepts from chain events causes.NoMemory was = tt

module _ (accepts : Accepts) (chain : ViewChain) (n : ℕ) (got : Got) (past : List Event) where
  gave : (key : Key) (bytes : List ℕ) → key ≡ keys.Finals n → GaveFinals n bytes (finals_event n got) → IsShown (finals_event n got ∷ past) (causes.BadRow key (Some bytes))
  gave key bytes is given =
      subst (λ (k : Key). IsShown (finals_event n got ∷ past) (causes.BadRow k (Some bytes))) (sym is) (given.0, inl given.1, given.2)

  finals_shown : (cause : Cause) → OrMemory (IsFinalsRefused accepts chain n (finals_event n got)) cause → IsShown (finals_event n got ∷ past) cause
  finals_shown causes.StoreFault is = (Get (keys.Finals n), WasGot gots.Failed, inl is, refl)
  finals_shown (causes.BadRow key None) is =
      subst (λ (k : Key). IsShown (finals_event n got ∷ past) (causes.BadRow k None)) (sym is.0) (inl is.1, tt)
  finals_shown (causes.BadRow key (Some bytes)) (is, inl bad) = gave key bytes is bad.0
  finals_shown (causes.BadRow key (Some bytes)) (is, inr others) = gave key bytes is others.given
  finals_shown causes.NoMemory is = tt
  finals_shown cause is = absurd is

stopped_shown : (accepts : Accepts) (from chain : ViewChain) (first : ℕ) (events : List Event) (cause : Cause) → WasStopped accepts from chain first cause events → IsShown events cause
stopped_shown accepts from chain first events causes.NoMemory was = tt
stopped_shown accepts from chain first events cause was = absurd was

pub views_shown : EntryShowing → (accepts : Accepts) (number : ℕ) (from chain : ViewChain) (events : List Event) (cause : Cause) → ViewsSay accepts from chain number events (Err cause) → IsShown events cause
views_shown law accepts number from chain events cause (inl was) = refresh_shown law accepts from chain events cause was
views_shown law accepts number from chain events cause (inr (inl was)) =
    subst (λ (l : List Event). IsShown l cause) (sym was.newest) (finals_shown accepts chain _ was.got was.past cause was.refused)
views_shown law accepts number from chain events cause (inr (inr was)) = stopped_shown accepts from chain _ events cause was
