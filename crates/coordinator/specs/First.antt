-- What a coordinator says where view 0 is set up.
use Rattle.std.specs.Prelude.{◌≡◌, true, List, [], ◌∷◌, Result, Ok, Err}
use Rattle.port.specs.Cause.{Cause, IsShown}
use Rattle.port.specs.Link.{LinkView}
use Rattle.port.specs.Store.{StoreView}
use Rattle.port.specs.Trace.{Event, Ran, AreHonest, AreFaithful}
use Rattle.port.specs.View.{ViewRow}
use Rattle.view_ledger.specs.Views.{ViewChain}
use Rattle.view_ledger.specs.Receipts.{Accepts}
use Rattle.op_reconf.specs.OwnCalls.{OwnCalls}
use Rattle.op_reconf.specs.Says.{Says}
use Rattle.op_reconf.specs.Sound.{Sound}
use Rattle.op_reconf.specs.State.{State, AtEnd, is_live}
use Rattle.calm.specs.Calls.{Later}
use Rattle.calm_first.specs.First.{BeforeFirst, CalmFirst}
use Rattle.coordinator.specs.State.{State as Held}
use Rattle.coordinator.specs.Calls.{Served}

-- this holds of the cause, where the answer is a refusal
abbrev pub OfErr : {A : Type 0} → Result A Cause → (Cause → Type 0) → Type 0
OfErr (Ok value) P = Unit {0}
OfErr (Err cause) P = P cause

-- Over a store in which nothing stood and which was honest, and members that weren't initialized and of which no call was lost: this is
-- so, where the chain has view 0 alone.
abbrev pub FromNothing : Accepts → ViewChain → List Event → (BeforeFirst → Later → Type 0) → Type 0
FromNothing accepts from events P =
    (first : BeforeFirst) (later : Later) → first.accepts ≡ accepts → from.configs ≡ first.config ∷ [] → later.left ≡ first.left
    → AreHonest first.contents events later.contents → AreFaithful first.signs first.bank events later.bank → P first later

-- The calls are those that set up view 0, the chain is as it was, and this is what they say of the answer. They came to it
-- one after the other, and with the newest one. They show the cause of a refusal; and this is the answer where nothing stood.
pub record FirstServed (accepts : Accepts) (from chain : ViewChain) (events : List Event) (answer : Result ViewRow Cause) : Type 0 where
  pub same : chain ≡ from
  pub own : OwnCalls from events
  pub says : Says from events answer
  pub came : Sound accepts from (record { chain = chain; stage = AtEnd answer }) events
  pub shown : OfErr answer (IsShown events)
  pub calm : FromNothing accepts from events (λ first later. CalmFirst first from.roster answer later)

-- the setting up has not ended, and made these calls and no other
abbrev pub Comes : {S L : Type 0} → Accepts → (S → StoreView) → (L → LinkView) → ViewChain → S → L → State → S → L → Type 0
Comes accepts sv lv from s l state s' l' = ((past : List Event) × Ran sv lv s l past s' l' × Sound accepts from state past) × (is_live state ≡ true)

-- the whole setting up made these calls and no other
abbrev pub FirstRan : {S L : Type 0} → Accepts → (S → StoreView) → (L → LinkView) → ViewChain → S → L → ViewChain → S → L → Result ViewRow Cause → Type 0
FirstRan accepts sv lv from s l chain s' l' answer = (events : List Event) × Ran sv lv s l events s' l' × FirstServed accepts from chain events answer

-- A coordinator that set up its view 0. That is none of a service's calls, so no refusal is counted.
pub record SaysOfFirst {S L C : Type 0} (accepts : C → Accepts) (store_view : S → StoreView) (link_view : L → LinkView) (old new : Held S L C) (answer : Result ViewRow Cause) : Type 0 where
  pub served : Served store_view link_view old new (λ events. FirstServed (accepts old.checker) old.chain new.chain events answer)
  pub refused : new.refused ≡ old.refused
