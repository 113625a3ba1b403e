-- Calls among others.
use Rattle.std.proofs.Common.{◌≡◌, ◌⊎◌, inl, inr, List, [], ◌∷◌, ◌++◌, refl, sym, subst}
use Rattle.std.specs.List.{AllByRecursion}
use Rattle.port.specs.Trace.{Event, Had}

-- these calls are among those
abbrev pub Within : List Event → List Event → Type 0
Within some all = (event : Event) → Had some event → Had all event

later : (a b : List Event) → Within b (a ++ b)
later [] b event had = had
later (first ∷ a) b event had = inr (later a b event had)

newer : (a b : List Event) → Within a (a ++ b)
newer [] b event had = absurd had
newer (first ∷ a) b event (inl is) = inl is
newer (first ∷ a) b event (inr had) = inr (newer a b event had)

pub within_all : (all a b : List Event) → all ≡ a ++ b → Within b all
within_all all a b is = subst (λ (l : List Event). Within b l) (sym is) (later a b)

pub calls_within : (all a b : List Event) → all ≡ a ++ b → Within a all
calls_within all a b is = subst (λ (l : List Event). Within a l) (sym is) (newer a b)

pub within_next : (all : List Event) (event : Event) (before : List Event) → all ≡ event ∷ before → Within before all
within_next all event before is = subst (λ (l : List Event). Within before l) (sym is) (λ e had. inr had)

pub had_newest : (all : List Event) (event : Event) (before : List Event) → all ≡ event ∷ before → Had all event
had_newest all event before is = subst (λ (l : List Event). Had l event) (sym is) (inl refl)

sorted : (a b : List Event) (event : Event) → Had (a ++ b) event → Had a event ⊎ Had b event
sorted [] b event had = inr had
sorted (first ∷ a) b event (inl is) = inl (inl is)
sorted (first ∷ a) b event (inr had) = elim (sorted a b event had) [ inl h ↦ inl (inr h) | inr h ↦ inr h ]

-- a call is among the newest ones or among those before
pub parted : (all a b : List Event) → all ≡ a ++ b → (event : Event) → Had all event → Had a event ⊎ Had b event
parted all a b is event had = sorted a b event (subst (λ (l : List Event). Had l event) is had)

-- a call is the newest one or among those before
pub newest_or : (all : List Event) (event : Event) (before : List Event) → all ≡ event ∷ before → (e : Event) → Had all e → (event ≡ e) ⊎ Had before e
newest_or all event before is e had = subst (λ (l : List Event). Had l e) is had

pub all_more : {X : Type 0} (P Q : X → Type 0) → ((x : X) → P x → Q x) → (xs : List X) → AllByRecursion P xs → AllByRecursion Q xs
all_more P Q more [] all = tt
all_more P Q more (x ∷ xs) all = (more x all.0, all_more P Q more xs all.1)
