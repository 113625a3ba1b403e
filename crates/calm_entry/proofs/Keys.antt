-- Rows that stand still stand once another row was put, and calls that put nothing change nothing.
use Rattle.std.proofs.Common.{◌≡◌, ◌≢◌, ℕ, true, eqb, List, [], ◌∷◌, length, Some, inl, inr, refl, sym, subst, ◌∙◌, rules}
use Rattle.std.specs.Prelude.{bytes_eq}
use Rattle.std.proofs.lemmas.Bool.{cases_Bool, eqb-true, and_parts}
use Rattle.std.proofs.lemmas.Slice.Eq.{bytes_eq-Decides}
use Rattle.chain_block.specs.declared.entry.Entry.{Entry}
use Rattle.statement.specs.declared.member.Member.{Member}
use Rattle.port.specs.declared.key.Key.{Key}
use Rattle.port.specs.declared.key.Key.TheVariants as keys
use Rattle.port.specs.declared.store_answers.Got.TheVariants as gots
use Rattle.port.specs.Contents.{Contents, is_same_key, put}
use Rattle.port.specs.Store.{Get, StoreCall, StoreAnswer, WasPut, WasGot, WasAttached, IsHonest}
use Rattle.port.specs.Stored.{Stored}
use Rattle.port.specs.Trace.{Event, AtStore, AtLink, Had, AreHonest}
use Rattle.view_ledger.specs.Receipts.{Accepts}
use Rattle.calm.specs.StandingRows.{StandsAbove}

same_number : (n : ℕ) → eqb n n ≡ true
same_number n = search rules

same_row : (handle : List ℕ) (height : ℕ) → is_same_key (keys.Row handle height) (keys.Row handle height) ≡ true
same_row handle height = rw ((bytes_eq-Decides handle handle).1 refl, same_number height) refl

pub put_here : (contents : Contents) (handle : List ℕ) (height : ℕ) (stored : Stored) → put contents (keys.Row handle height) stored (keys.Row handle height) ≡ Some stored
put_here contents handle height stored = rw (same_row handle height) refl

pub put_at_other : (contents : Contents) (handle : List ℕ) (height other : ℕ) (stored : Stored) → other ≢ height
    → put contents (keys.Row handle height) stored (keys.Row handle other) ≡ contents (keys.Row handle other)
put_at_other contents handle height other stored apart =
    elim (cases_Bool (is_same_key (keys.Row handle height) (keys.Row handle other))) [
      | inl same ↦ absurd (apart (sym (eqb-true height other (and_parts (bytes_eq handle handle) (eqb height other) same).1)))
      | inr not_same ↦ rw not_same refl
    ]

-- a row stands still once another row of its ledger was put
pub still_stands : (accepts : Accepts) (configs : List (List Member)) (contents after : Contents) (handle : List ℕ) (below : List Entry) (entry : Entry)
    → (stands : StandsAbove accepts configs contents handle below entry) → after (keys.Row handle (length below)) ≡ contents (keys.Row handle (length below))
    → StandsAbove accepts configs after handle below entry
still_stands accepts configs contents after handle below entry stands same = record {
  stored = stands.stored;
  stands = same ∙ stands.stands;
  good = stands.good;
  receipt = stands.receipt;
  attached = stands.attached;
}

-- a get changes nothing
pub get_changes_nothing : (before : Contents) (key : Key) (answer : StoreAnswer) (after : Contents) → IsHonest before (Get key) answer after → after ≡ before
get_changes_nothing before key (WasGot (gots.Some stored)) after honest = honest.1
get_changes_nothing before key (WasGot gots.None) after honest = honest.1
get_changes_nothing before key (WasGot gots.NoMemory) after honest = honest
get_changes_nothing before key (WasGot gots.Failed) after honest = absurd honest
get_changes_nothing before key (WasPut put) after honest = absurd honest
get_changes_nothing before key (WasAttached attached) after honest = absurd honest

-- the call is a get, or none of a store
abbrev pub IsQuiet : Event → Type 0
IsQuiet (AtStore call answer) = (key : Key) × (call ≡ Get key)
IsQuiet (AtLink id call heard) = Unit {0}

pub nothing_changes : (contents : Contents) (past : List Event) (after : Contents) → ((event : Event) → Had past event → IsQuiet event) → AreHonest contents past after → after ≡ contents
nothing_changes contents [] after quiet honest = honest
nothing_changes contents (AtStore call answer ∷ past) after quiet honest =
    let get = quiet (AtStore call answer) (inl refl) in
    get_changes_nothing honest.0 get.0 answer after (subst (λ (c : StoreCall). IsHonest honest.0 c answer after) get.1 honest.2)
    ∙ nothing_changes contents past honest.0 (λ e had. quiet e (inr had)) honest.1
nothing_changes contents (AtLink id call heard ∷ past) after quiet honest = nothing_changes contents past after (λ e had. quiet e (inr had)) honest
