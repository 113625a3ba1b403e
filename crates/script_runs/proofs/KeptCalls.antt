-- What lists of calls make of the rows that stand, and what is known by them.
use Rattle.std.proofs.Common.{inl, inr, ℕ, Bool, List, [], ◌∷◌, ◌++◌, refl, sym, ap, subst, ◌∙◌}
use Rattle.std.specs.List.{AllByRecursion}
use Rattle.chain_block.specs.declared.entry.Entry.{Entry}
use Rattle.port.specs.declared.key.Key.{Key}
use Rattle.port.specs.declared.key.Key.TheVariants.{Row}
use Rattle.port.specs.declared.store_answers.Put.TheVariants as puts
use Rattle.port.specs.declared.store_answers.Got.TheVariants as gots
use Rattle.port.specs.Contents.{Contents}
use Rattle.port.specs.Store.{Attach, Get, PutNew, StoreCall, Truth, WasGot, WasPut}
use Rattle.port.specs.Trace.{AllFollow, AtLink, AtStore, Event, Had}
use Rattle.script_runs.proofs.StandingRows.{AllKnown, IsHeld, IsKnown, IsSound, MayStand, OneRow, PutMayStand, held_step, known_step, rows_step}

-- ---- lists

pub had_left : (calls before : List Event) (event : Event) → Had calls event → Had (calls ++ before) event
had_left [] before event had = absurd had
had_left (first ∷ calls) before event (inl is) = inl is
had_left (first ∷ calls) before event (inr had) = inr (had_left calls before event had)

pub had_right : (calls before : List Event) (event : Event) → Had before event → Had (calls ++ before) event
had_right [] before event had = had
had_right (first ∷ calls) before event had = inr (had_right calls before event had)

pub all_append : {A : Type 0} (P : A → Type 0) (a b : List A) → AllByRecursion P a → AllByRecursion P b → AllByRecursion P (a ++ b)
all_append P [] b all more = more
all_append P (x ∷ a) b (one, all) more = (one, all_append P a b all more)

pub all_lift : {A : Type 0} (P Q : A → Type 0) → ((x : A) → P x → Q x) → (a : List A) → AllByRecursion P a → AllByRecursion Q a
all_lift P Q lift [] all = tt
all_lift P Q lift (x ∷ a) (one, all) = (lift x one, all_lift P Q lift a all)

pub all_had : (P : Event → Type 0) (events : List Event) → AllByRecursion P events → (event : Event) → Had events event → P event
all_had P [] all event had = absurd had
all_had P (first ∷ events) (one, all) event (inl is) = subst P is one
all_had P (first ∷ events) (one, all) event (inr had) = all_had P events all event had

pub had_all : (P : Event → Type 0) (events : List Event) → ((event : Event) → Had events event → P event) → AllByRecursion P events
had_all P [] each = tt
had_all P (first ∷ events) each = (each first (inl refl), had_all P events (λ event had. each event (inr had)))

-- ---- what is held

-- whatever was held is held
abbrev pub Lifts : (Entry → Type 0) → List Key → Contents → (Entry → Type 0) → List Key → Contents → Type 0
Lifts drawn forked contents drawn' forked' contents' =
    (handle prev entry : List ℕ) (height : ℕ) → IsHeld drawn forked contents handle prev entry height → IsHeld drawn' forked' contents' handle prev entry height

module _ (drawn drawn' : Entry → Type 0) (forked forked' : List Key) (contents contents' : Contents) (lifts : Lifts drawn forked contents drawn' forked' contents') where
  pub known_lift : (event : Event) → IsKnown drawn forked contents event → IsKnown drawn' forked' contents' event
  known_lift (AtStore (Get (Row handle height)) (WasGot (gots.Some stored))) known = λ row good. lifts _ _ _ _ (known row good)
  known_lift (AtStore (PutNew key body) (WasPut puts.Done)) known = λ row equal bytes digest. lifts _ _ _ _ (known row equal bytes digest)
  known_lift event known = tt

  pub all_known_lift : (events : List Event) → AllKnown drawn forked contents events → AllKnown drawn' forked' contents' events
  all_known_lift events known = all_lift (IsKnown drawn forked contents) (IsKnown drawn' forked' contents') known_lift events known

-- ---- lists of calls

-- what the call puts may stand at its key
abbrev pub PutsOwn : (Entry → Type 0) → Event → Type 0
PutsOwn drawn (AtStore (PutNew key body) answer) = MayStand drawn key body
PutsOwn drawn (AtStore (Get key) answer) = Unit {0}
PutsOwn drawn (AtStore (Attach key bytes) answer) = Unit {0}
PutsOwn drawn (AtLink id call heard) = Unit {0}

abbrev pub AllPutOwn : (Entry → Type 0) → List Event → Type 0
AllPutOwn drawn events = AllByRecursion (PutsOwn drawn) events

-- After the calls rows may stand that do, whatever was held is held, and what the calls told is so.
pub record Kept (drawn : Entry → Type 0) (forked : List Key) (truth after : Truth) (events : List Event) : Type 0 where
  pub sound : IsSound drawn forked after
  pub lifts : Lifts drawn forked truth.contents drawn forked after.contents
  pub known : AllKnown drawn forked after.contents events

module _ (law : OneRow) (drawn : Entry → Type 0) (forked : List Key) where
  pub kept : (events : List Event) (truth after : Truth) → IsSound drawn forked truth → AllFollow truth events after → AllPutOwn drawn events → Kept drawn forked truth after events
  kept [] truth after sound is own = subst (λ (t : Truth). Kept drawn forked truth t []) (sym is) (record { sound = sound; lifts = λ handle prev entry height held. held; known = tt })
  kept (AtLink id call heard ∷ past) truth after sound follows own =
      let before = kept past truth after sound follows own.1 in
      record { sound = before.sound; lifts = before.lifts; known = (tt, before.known) }
  kept (AtStore call answer ∷ past) truth after sound (middle, follows, step) own =
      let before = kept past truth middle sound follows own.1 in
      let may = may_stand call own.0 in
      let same = step.same_forks in
      let lift : Lifts drawn forked middle.contents drawn forked after.contents = held_step law drawn forked middle after before.sound same call answer step.contents in
      record {
        sound = record {
          rows = rows_step drawn middle call answer after.contents step.contents may before.sound.rows;
          forks = λ key forks. before.sound.forks key (sym (ap (λ (f : Key → Bool). f key) same) ∙ forks);
        };
        lifts = λ handle prev entry height held. lift handle prev entry height (before.lifts handle prev entry height held);
        known = (
          known_step law drawn forked middle after before.sound same call answer may step.contents,
          all_known_lift drawn drawn forked forked middle.contents after.contents lift past before.known,
        );
      }
    where
      may_stand : (call : StoreCall) → PutsOwn drawn (AtStore call answer) → PutMayStand drawn middle call
      may_stand (PutNew key body) may = may
      may_stand (Get key) may = tt
      may_stand (Attach key bytes) may = tt
