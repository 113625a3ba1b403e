-- Calls that put nothing of what ends a view, and begin no other view than this.
use Rattle.std.proofs.Common.{◌≡◌, inl, inr, ℕ, List, [], ◌∷◌, ◌++◌, refl, subst}
use Rattle.std.specs.List.{AllByRecursion}
use Rattle.port.specs.declared.key.Key.TheVariants as keys
use Rattle.port.specs.Call.{Call, Activate}
use Rattle.port.specs.Store.{PutNew}
use Rattle.port.specs.Trace.{Event, AtStore, AtLink, Had}
use Rattle.view_ledger.specs.Views.{ViewChain}
use Rattle.view_ledger.specs.Receipts.{Accepts}
use Rattle.op_parts.specs.Refresh.{GaveFinals, Grew, HasGrown}

-- an endorser is told to begin in no other view
abbrev pub BeginsIn : List ℕ → Call → Type 0
BeginsIn view (Activate other proof) = other ≡ view
BeginsIn view call = Unit {0}

abbrev pub IsStill : List ℕ → Event → Type 0
IsStill view (AtStore (PutNew (keys.Finals number) body) answer) = ⊥
IsStill view (AtStore call answer) = Unit {0}
IsStill view (AtLink id call heard) = BeginsIn view call

abbrev pub AreStill : List ℕ → List Event → Type 0
AreStill view events = AllByRecursion (IsStill view) events

-- the store gave nothing of what ends a view
abbrev pub IsDry : Event → Type 0
IsDry event = (number : ℕ) (bytes : List ℕ) → GaveFinals number bytes event → ⊥

abbrev pub AreDry : List Event → Type 0
AreDry events = AllByRecursion IsDry events

pub all_join : {X : Type 0} (P : X → Type 0) (xs ys : List X) → AllByRecursion P xs → AllByRecursion P ys → AllByRecursion P (xs ++ ys)
all_join P [] ys all more = more
all_join P (x ∷ xs) ys all more = (all.0, all_join P xs ys all.1 more)

pub all_front : {X : Type 0} (P : X → Type 0) (xs ys : List X) → AllByRecursion P (xs ++ ys) → AllByRecursion P xs
all_front P [] ys all = tt
all_front P (x ∷ xs) ys all = (all.0, all_front P xs ys all.1)

pub all_back : {X : Type 0} (P : X → Type 0) (xs ys : List X) → AllByRecursion P (xs ++ ys) → AllByRecursion P ys
all_back P [] ys all = all
all_back P (x ∷ xs) ys all = all_back P xs ys all.1

-- what holds of each call that was made
pub all_had : (P : Event → Type 0) (events : List Event) → ((event : Event) → Had events event → P event) → AllByRecursion P events
all_had P [] each = tt
all_had P (event ∷ events) each = (each event (inl refl), all_had P events (λ other had. each other (inr had)))

-- by such calls no chain grows
pub grew_none : (accepts : Accepts) (from chain : ViewChain) (past : List Event) → AreDry past → Grew accepts from past chain → chain ≡ from
grew_none accepts from chain [] dry grew = grew
grew_none accepts from chain (second ∷ []) dry grew = absurd grew
grew_none accepts from chain (second ∷ first ∷ past) dry (before, next, grew, gave, is) = absurd (dry.0 _ gave.bytes gave.given)

pub grown_none : (accepts : Accepts) (from chain : ViewChain) (past : List Event) → AreDry past → HasGrown accepts from chain past → chain ≡ from
grown_none accepts from chain past dry (later, earlier, split, grew) =
    grew_none accepts from chain earlier (all_back IsDry later earlier (subst AreDry split dry)) grew
