-- A store in which nothing stands that ended a view.
use Rattle.std.proofs.Common.{◌≡◌, ℕ, List, [], ◌∷◌, Option, Some, None, refl, sym, ap, subst, ◌∙◌}
use Rattle.port.specs.declared.key.Key.{Key}
use Rattle.port.specs.declared.key.Key.TheVariants as keys
use Rattle.port.specs.declared.store_answers.Put.TheVariants as puts
use Rattle.port.specs.declared.store_answers.Got.TheVariants as gots
use Rattle.port.specs.declared.store_answers.Attached.TheVariants as attaches
use Rattle.port.specs.Call.{Call}
use Rattle.port.specs.Heard.{Heard}
use Rattle.port.specs.Contents.{Contents, put, fresh, with_attached}
use Rattle.port.specs.Link.{LinkView}
use Rattle.port.specs.Stored.{Stored}
use Rattle.port.specs.Store.{Answers, Follows, StoreAnswer, StoreCall, StoreStep, Truth, PutNew, Get, Attach, WasPut, WasGot, WasAttached, at}
use Rattle.port.specs.Trace.{Event, AtStore, AtLink, Ran}
use Rattle.blob_store.specs.LyingStore.{held_in, lying_view}
use Rattle.blob_store.specs.declared.lying_store.LyingStore.{LyingStore}
use Rattle.script_runs.proofs.Still.{AreDry, AreStill, IsDry, IsStill}

-- nothing of what ended a view stands, and a get of it looks there
abbrev pub HasNoFinals : Truth → Type 0
HasNoFinals truth = (number : ℕ) → (truth.contents (keys.Finals number) ≡ None) × (truth.source (keys.Finals number) ≡ Some (keys.Finals number))

same_none : (contents after : Contents) (number : ℕ) → after ≡ contents → contents (keys.Finals number) ≡ None → after (keys.Finals number) ≡ None
same_none contents after number same none = ap (λ (c : Contents). c (keys.Finals number)) same ∙ none

put_none : (contents after : Contents) (key : Key) (stored : Stored) (number : ℕ) (view : List ℕ) (body : List ℕ) (answer : StoreAnswer) → IsStill view (AtStore (PutNew key body) answer)
    → after ≡ put contents key stored → contents (keys.Finals number) ≡ None → after (keys.Finals number) ≡ None
put_none contents after (keys.Row handle height) stored number view body answer still same none = ap (λ (c : Contents). c (keys.Finals number)) same ∙ none
put_none contents after (keys.View other) stored number view body answer still same none = ap (λ (c : Contents). c (keys.Finals number)) same ∙ none
put_none contents after (keys.Finals other) stored number view body answer still same none = absurd still

attach_none : (contents after : Contents) (key : Key) (stored next : Stored) (number : ℕ) → ((other : ℕ) → contents (keys.Finals other) ≡ None) → contents key ≡ Some stored
    → after ≡ put contents key next → after (keys.Finals number) ≡ None
attach_none contents after (keys.Row handle height) stored next number none stands same = ap (λ (c : Contents). c (keys.Finals number)) same ∙ none number
attach_none contents after (keys.View other) stored next number none stands same = ap (λ (c : Contents). c (keys.Finals number)) same ∙ none number
attach_none contents after (keys.Finals other) stored next number none stands same = absurd (cc (none other, stands))

module _ (view : List ℕ) (truth : Truth) (none : HasNoFinals truth) (number : ℕ) where
  answers_none : (call : StoreCall) (answer : StoreAnswer) (after : Contents) → IsStill view (AtStore call answer) → Answers truth call answer after → after (keys.Finals number) ≡ None
  answers_none (PutNew key body) (WasPut puts.Done) after still is = put_none truth.contents after key (fresh body) number view body (WasPut puts.Done) still is.1 (none number).0
  answers_none (PutNew key body) (WasPut puts.Taken) after still is = same_none truth.contents after number is.2 (none number).0
  answers_none (PutNew key body) (WasPut puts.Failed) after still is = same_none truth.contents after number is (none number).0
  answers_none (PutNew key body) (WasPut puts.NoMemory) after still is = same_none truth.contents after number is (none number).0
  answers_none (PutNew key body) (WasGot got) after still is = absurd is
  answers_none (PutNew key body) (WasAttached attached) after still is = absurd is
  answers_none (Get key) (WasGot (gots.Some stored)) after still is = same_none truth.contents after number is.1 (none number).0
  answers_none (Get key) (WasGot gots.None) after still is = same_none truth.contents after number is.1 (none number).0
  answers_none (Get key) (WasGot gots.Failed) after still is = same_none truth.contents after number is (none number).0
  answers_none (Get key) (WasGot gots.NoMemory) after still is = same_none truth.contents after number is (none number).0
  answers_none (Get key) (WasPut put) after still is = absurd is
  answers_none (Get key) (WasAttached attached) after still is = absurd is
  answers_none (Attach key bytes) (WasAttached attaches.Done) after still (stored, stands, is) =
      attach_none truth.contents after key stored (with_attached stored bytes) number (λ other. (none other).0) stands is
  answers_none (Attach key bytes) (WasAttached attaches.Absent) after still is = same_none truth.contents after number is.1 (none number).0
  answers_none (Attach key bytes) (WasAttached attaches.Failed) after still is = same_none truth.contents after number is (none number).0
  answers_none (Attach key bytes) (WasAttached attaches.NoMemory) after still is = same_none truth.contents after number is (none number).0
  answers_none (Attach key bytes) (WasPut put) after still is = absurd is
  answers_none (Attach key bytes) (WasGot got) after still is = absurd is

module _ (view : List ℕ) (truth after : Truth) (call : StoreCall) (answer : StoreAnswer) (still : IsStill view (AtStore call answer)) (follows : Follows truth call answer after) (none : HasNoFinals truth) where
  follows_none : HasNoFinals after
  follows_none number = (
    answers_none view truth none number call answer after.contents still follows.contents,
    ap (λ (s : Key → Option Key). s (keys.Finals number)) follows.same_source ∙ (none number).1,
  )

  gave_none : IsDry (AtStore call answer)
  gave_none number bytes (stored, is, body) =
      let asked : call ≡ Get (keys.Finals number) = cc is in
      let got : answer ≡ WasGot (gots.Some stored) = cc is in
      let one : Answers truth (Get (keys.Finals number)) answer after.contents = subst (λ (c : StoreCall). Answers truth c answer after.contents) asked follows.contents in
      let two : Answers truth (Get (keys.Finals number)) (WasGot (gots.Some stored)) after.contents = subst (λ (a : StoreAnswer). Answers truth (Get (keys.Finals number)) a after.contents) got one in
      let there : at truth.contents (truth.source (keys.Finals number)) ≡ None = ap (λ (k : Option Key). at truth.contents k) (none number).1 ∙ (none number).0 in
      let never : None ≡ Some stored = sym there ∙ two.0 in
      absurd cc

module _ (view : List ℕ) (old new : LyingStore) (call : StoreCall) (answer : StoreAnswer) (still : IsStill view (AtStore call answer)) (step : StoreStep lying_view old new call answer) (none : HasNoFinals (held_in old)) where
  step_none : HasNoFinals (held_in new)
  step_none =
      let went = step.follows (held_in old) refl in
      let same : held_in new ≡ went.0 = cc went.1 in
      subst HasNoFinals (sym same) (follows_none view (held_in old) went.0 call answer still went.2 none)

  step_dry : IsDry (AtStore call answer)
  step_dry = let went = step.follows (held_in old) refl in gave_none view (held_in old) went.0 call answer still went.2 none

link_dry : (id : ℕ) (call : Call) (heard : Heard) → IsDry (AtLink id call heard)
link_dry id call heard number bytes (stored, is, body) = absurd (cc is)

pub ran_none : {L : Type 0} (lv : L → LinkView) (view : List ℕ) (s s' : LyingStore) (l l' : L) (events : List Event) → Ran lying_view lv s l events s' l' → AreStill view events → HasNoFinals (held_in s)
    → HasNoFinals (held_in s') × AreDry events
ran_none lv view s s' l l' [] ran still none = (subst (λ (x : LyingStore). HasNoFinals (held_in x)) (sym ran.0) none, tt)
ran_none lv view s s' l l' (AtStore call answer ∷ past) (m, k, ran, step) still none =
    let before = ran_none lv view s m l k past ran still.1 none in
    (step_none view m s' call answer still.0 step.0 before.0, (step_dry view m s' call answer still.0 step.0 before.0, before.1))
ran_none lv view s s' l l' (AtLink id call heard ∷ past) (m, k, ran, step) still none =
    let before = ran_none lv view s m l k past ran still.1 none in
    (subst (λ (x : LyingStore). HasNoFinals (held_in x)) (sym step.1) before.0, (link_dry id call heard, before.1))
