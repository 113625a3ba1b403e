-- Operations, and what stands of them by the lines of a script.
use Rattle.std.proofs.Common.{◌≡◌, ◌≢◌, inl, inr, ℕ, zero, suc, ◌<◌, ◌≤◌, Bool, true, false, List, [], ◌∷◌, ◌++◌, length, slice_get, slice_set, Option, Some, if◌then◌else◌, refl, sym, ap, subst, ◌∙◌, arith}
use Rattle.std.specs.Prelude.{not}
use Rattle.std.specs.Str.{bytes_eq}
use Rattle.std.proofs.lemmas.List.{length-append}
use Rattle.std.proofs.lemmas.Slice.Eq.{bytes_eq-Decides}
use Rattle.fault_script.specs.Command.{Request, New, Append, Latest, At, Reconfigure}
use Rattle.fault_script.specs.Operations.{is_closed_of_client, is_open as stands_open, is_open_latest, standing}
use Rattle.name_map.specs.NameMap.{means}
use Rattle.port.specs.Link.{LinkView}
use Rattle.port.specs.Store.{StoreView}
use Rattle.view_ledger.specs.Receipts.{Accepts}
use Rattle.view_ledger.specs.Views.{ViewChain}
use Rattle.coordinator.specs.State.{State}
use Rattle.script_operations.specs.Giving.{NoneReads}
use Rattle.script_operations.specs.Operations as progresses
use Rattle.script_operations.specs.Operations.{Begun, HasBegun, IsFresh, IsNamed, IsOpen, NoneIsNamed, NoneIsOpen, Operations, Progress, at_progress, is_open, with_begun}
use Rattle.script_operations.specs.Stepping.{Steps, StepsNamed}
use Rattle.script_operations.specs.Task.{Height, Newest, Own, Task}
use Rattle.world_run.proofs.NamesStand.{Closed, Open, Stood, Unbegun, closed, lines_to}

-- ---- lists

got_set : {X : Type 0} (xs : List X) (place : ℕ) (x y : X) → slice_get xs place ≡ Some x → slice_get (slice_set xs place y) place ≡ Some y
got_set [] place x y stood = absurd cc
got_set (z ∷ zs) zero x y stood = refl
got_set (z ∷ zs) (suc place) x y stood = got_set zs place x y stood

got_other : {X : Type 0} (xs : List X) (place other : ℕ) (y : X) → place ≢ other → slice_get (slice_set xs place y) other ≡ slice_get xs other
got_other [] place other y differ = refl
got_other (z ∷ zs) zero zero y differ = absurd (differ refl)
got_other (z ∷ zs) zero (suc other) y differ = refl
got_other (z ∷ zs) (suc place) zero y differ = refl
got_other (z ∷ zs) (suc place) (suc other) y differ = got_other zs place other y (λ same. differ (ap suc same))

got_before : {X : Type 0} (xs : List X) (place : ℕ) (x y : X) → slice_get xs place ≡ Some x → slice_get (xs ++ y ∷ []) place ≡ Some x
got_before [] place x y stood = absurd cc
got_before (z ∷ zs) zero x y stood = stood
got_before (z ∷ zs) (suc place) x y stood = got_before zs place x y stood

got_last : {X : Type 0} (xs : List X) (y : X) → slice_get (xs ++ y ∷ []) (length xs) ≡ Some y
got_last [] y = refl
got_last (z ∷ zs) y = got_last zs y

set_length : {X : Type 0} (xs : List X) (place : ℕ) (y : X) → length (slice_set xs place y) ≡ length xs
set_length [] place y = refl
set_length (z ∷ zs) zero y = refl
set_length (z ∷ zs) (suc place) y = ap suc (set_length zs place y)

-- ---- what is tied

-- a read of a newest row where the request is one
abbrev pub IsFor : Request → Task → Type 0
IsFor (New client label payload) task = Unit {0}
IsFor (Append client label height payload) task = Unit {0}
IsFor (Latest client label) task = (place : ℕ) × (draw : ℕ) × (handle : List ℕ) × (nonce : List ℕ) × (task ≡ Newest place draw handle nonce)
IsFor (At client label height) task = Unit {0}
IsFor (Reconfigure ids) task = Unit {0}

-- an operation of this name is open, and is for the request
pub record StandsOpen (operations : Operations) (name : List ℕ) (request : Request) : Type 0 where
  pub place : ℕ
  pub begun : Begun
  pub found : IsOpen operations name place begun
  pub wanted : IsFor request begun.task

-- an operation has this name
pub record StandsNamed (operations : Operations) (name : List ℕ) : Type 0 where
  pub place : ℕ
  pub begun : Begun
  pub found : IsNamed operations name place begun

abbrev pub StandsSo : Operations → List ℕ → Stood → Type 0
StandsSo operations name Unbegun = Unit {0}
StandsSo operations name (Open request) = StandsOpen operations name request
StandsSo operations name (Closed request) = StandsNamed operations name

-- Each operation stands so. A name means a place among all, and no two names mean the same.
pub record AreTied (stood_of : List ℕ → Stood) (operations : Operations) : Type 0 where
  pub stands : (name : List ℕ) → StandsSo operations name (stood_of name)
  pub below : (name : List ℕ) (place : ℕ) → means operations.names name ≡ Some place → place < length operations.all
  pub apart : (one other : List ℕ) (place : ℕ) → means operations.names one ≡ Some place → means operations.names other ≡ Some place → one ≡ other
  pub up_to : operations.open_from ≤ length operations.all

-- where nothing was begun
pub none_tied : AreTied (λ name. Unbegun) (record { all = []; names = []; open_from = 0 })
none_tied = record {
  stands = λ name. tt;
  below = λ name place named. absurd cc;
  apart = λ one other place named again. absurd cc;
  up_to = omega arith;
}

-- ---- what can't be

pub not_closed : (operations : Operations) (name : List ℕ) (stood : Stood) → not (stands_open (standing (lines_to stood) [])) ≡ false → StandsSo operations name stood → NoneIsOpen operations name → ⊥
not_closed operations name Unbegun fits so none = absurd cc
not_closed operations name (Open request) fits so none = none so.place so.begun so.found
not_closed operations name (Closed request) fits so none = absurd cc

pub not_unnamed : (operations : Operations) (name : List ℕ) (stood : Stood) → not (is_closed_of_client (standing (lines_to stood) [])) ≡ false → StandsSo operations name stood → NoneIsNamed operations name → ⊥
not_unnamed operations name Unbegun fits so none = absurd cc
not_unnamed operations name (Open request) fits so none = absurd cc
not_unnamed operations name (Closed request) fits so none = none so.place so.begun so.found

pub not_unread : (operations : Operations) (name : List ℕ) (stood : Stood) → not (is_open_latest (standing (lines_to stood) [])) ≡ false → StandsSo operations name stood → NoneReads operations name → ⊥
not_unread operations name Unbegun fits so none = absurd cc
not_unread operations name (Open (New client label payload)) fits so none = absurd cc
not_unread operations name (Open (Append client label height payload)) fits so none = absurd cc
not_unread operations name (Open (Latest client label)) fits so none =
    none so.place so.begun so.found (so.wanted.0, so.wanted.1, so.wanted.2, so.wanted.3, so.wanted.4, so.found.going)
not_unread operations name (Open (At client label height)) fits so none = absurd cc
not_unread operations name (Open (Reconfigure ids)) fits so none = absurd cc
not_unread operations name (Closed request) fits so none = absurd cc

-- ---- what a line changes

-- a name stands as it did where what it means stays
kept_so : (old new : Operations) (name : List ℕ) → new.open_from ≡ old.open_from → ((place : ℕ) (begun : Begun) → IsNamed old name place begun → IsNamed new name place begun)
    → (stood : Stood) → StandsSo old name stood → StandsSo new name stood
kept_so old new name same keeps Unbegun so = tt
kept_so old new name same keeps (Open request) so = record {
  place = so.place;
  begun = so.begun;
  found = record {
    is = keeps so.place so.begun so.found.is;
    since = subst (λ (from : ℕ). from ≤ so.place) (sym same) so.found.since;
    going = so.found.going;
  };
  wanted = so.wanted;
}
kept_so old new name same keeps (Closed request) so = record { place = so.place; begun = so.begun; found = keeps so.place so.begun so.found }

closed_so : (operations : Operations) (name : List ℕ) → StandsNamed operations name → (stood : Stood) → StandsSo operations name (closed stood)
closed_so operations name named Unbegun = tt
closed_so operations name named (Open request) = named
closed_so operations name named (Closed request) = named

restarted_so : (operations : Operations) (name : List ℕ) (stood : Stood) → StandsSo operations name stood
    → StandsSo (record { all = operations.all; names = operations.names; open_from = length operations.all }) name (closed stood)
restarted_so operations name Unbegun so = tt
restarted_so operations name (Open request) so = record { place = so.place; begun = so.begun; found = record { named = so.found.is.named; stands = so.found.is.stands } }
restarted_so operations name (Closed request) so = record { place = so.place; begun = so.begun; found = record { named = so.found.named; stands = so.found.stands } }

-- all are closed
pub restart_tied : (stood_of : List ℕ → Stood) (old : Operations) → AreTied stood_of old
    → AreTied (λ name. closed (stood_of name)) (record { all = old.all; names = old.names; open_from = length old.all })
restart_tied stood_of old tied = record {
  stands = λ name. restarted_so old name (stood_of name) (tied.stands name);
  below = tied.below;
  apart = tied.apart;
  up_to = omega arith;
}

-- the operation of this name comes so far
module _ (stood_of : List ℕ → Stood) (old : Operations) (tied : AreTied stood_of old) (name : List ℕ) (place : ℕ) (begun : Begun) (is : IsNamed old name place begun) (progress : Progress) where
  abbrev after : Operations
  after = with_begun old place (at_progress begun progress)

  own_named : IsNamed after name place (at_progress begun progress)
  own_named = record { named = is.named; stands = got_set old.all place begun (at_progress begun progress) is.stands }

  other_named : (other : List ℕ) → bytes_eq other name ≡ false → (at : ℕ) (one : Begun) → IsNamed old other at one → IsNamed after other at one
  other_named other differ at one named =
      let away : place ≢ at = λ same.
      let one_name : other ≡ name = tied.apart other name at named.named (is.named ∙ ap Some same) in
      let both : bytes_eq other name ≡ true = (bytes_eq-Decides other name).1 one_name in
      cc in
      record { named = named.named; stands = got_other old.all place at (at_progress begun progress) away ∙ named.stands }

  others_so : (other : List ℕ) → bytes_eq other name ≡ false → StandsSo after other (stood_of other)
  others_so other differ = kept_so old after other refl (other_named other differ) (stood_of other) (tied.stands other)

  after_below : (other : List ℕ) (at : ℕ) → means old.names other ≡ Some at → at < length after.all
  after_below other at named = subst (λ (count : ℕ). at < count) (sym (set_length old.all place (at_progress begun progress))) (tied.below other at named)

  after_up_to : old.open_from ≤ length after.all
  after_up_to = subst (λ (count : ℕ). old.open_from ≤ count) (sym (set_length old.all place (at_progress begun progress))) tied.up_to

  closing_so : (other : List ℕ) (own : Bool) → bytes_eq other name ≡ own → StandsSo after other (if own then closed (stood_of other) else stood_of other)
  closing_so other true same =
      let one_name : name ≡ other = sym ((bytes_eq-Decides other name).0 same) in
      closed_so after other (subst (λ (n : List ℕ). StandsNamed after n) one_name (record { place = place; begun = at_progress begun progress; found = own_named })) (stood_of other)
  closing_so other false differ = others_so other differ

  -- and is closed by the line
  pub closing_tied : AreTied (λ other. if bytes_eq other name then closed (stood_of other) else stood_of other) after
  closing_tied = record {
    stands = λ other. closing_so other (bytes_eq other name) refl;
    below = after_below;
    apart = tied.apart;
    up_to = after_up_to;
  }

  going_so : is_open progress ≡ true → (stood : Stood) → StandsSo old name stood → StandsSo after name stood
  going_so going Unbegun so = tt
  going_so going (Open request) so =
      let there : so.place ≡ place = cc (so.found.is.named, is.named) in
      let it : so.begun ≡ begun = cc (so.found.is.stands, is.stands, there) in
      record {
        place = place;
        begun = at_progress begun progress;
        found = record { is = own_named; since = subst (λ (at : ℕ). old.open_from ≤ at) there so.found.since; going = going };
        wanted = subst (λ (one : Begun). IsFor request one.task) it so.wanted;
      }
  going_so going (Closed request) so = record { place = place; begun = at_progress begun progress; found = own_named }

  stepped_so : is_open progress ≡ true → (other : List ℕ) (own : Bool) → bytes_eq other name ≡ own → StandsSo after other (stood_of other)
  stepped_so going other true same =
      let one_name : name ≡ other = sym ((bytes_eq-Decides other name).0 same) in
      subst (λ (n : List ℕ). StandsSo after n (stood_of n)) one_name (going_so going (stood_of name) (tied.stands name))
  stepped_so going other false differ = others_so other differ

  -- and is open still
  pub going_tied : is_open progress ≡ true → AreTied stood_of after
  going_tied going = record {
    stands = λ other. stepped_so going other (bytes_eq other name) refl;
    below = after_below;
    apart = tied.apart;
    up_to = after_up_to;
  }

fresh_open : (chain : ViewChain) (task : Task) (progress : Progress) → IsFresh chain task progress → is_open progress ≡ true
fresh_open chain (Own client draw entry) progresses.Closed fresh = absurd fresh
fresh_open chain (Own client draw entry) (progresses.InEntry state) fresh = refl
fresh_open chain (Own client draw entry) (progresses.InNewest state) fresh = refl
fresh_open chain (Newest client draw handle nonce) progresses.Closed fresh = absurd fresh
fresh_open chain (Newest client draw handle nonce) (progresses.InEntry state) fresh = refl
fresh_open chain (Newest client draw handle nonce) (progresses.InNewest state) fresh = refl
fresh_open chain (Height client handle height) progresses.Closed fresh = absurd fresh
fresh_open chain (Height client handle height) (progresses.InEntry state) fresh = refl
fresh_open chain (Height client handle height) (progresses.InNewest state) fresh = refl

-- one more was begun under this name
module _ (stood_of : List ℕ → Stood) (old new : Operations) (tied : AreTied stood_of old) (name : List ℕ) (task : Task) (label : List ℕ) (chain : ViewChain) (more : HasBegun old new name task label chain) where
  abbrev newest : Begun
  newest = record { task = task; label = label; progress = more.progress }

  means_own : (other : List ℕ) → bytes_eq other name ≡ true → means new.names other ≡ Some (length old.all)
  means_own other same =
      ap (λ (names : List ℕ → Option ℕ). names other) more.more.names ∙ ap (λ (own : Bool). if own then Some (length old.all) else means old.names other) same

  means_other : (other : List ℕ) → bytes_eq other name ≡ false → means new.names other ≡ means old.names other
  means_other other differ =
      ap (λ (names : List ℕ → Option ℕ). names other) more.more.names ∙ ap (λ (own : Bool). if own then Some (length old.all) else means old.names other) differ

  one_more : length new.all ≡ suc (length old.all)
  one_more =
      let count = ap length more.more.all ∙ length-append old.all (newest ∷ []) in
      omega (arith, count)

  stayed : (other : List ℕ) → bytes_eq other name ≡ false → (place : ℕ) (begun : Begun) → IsNamed old other place begun → IsNamed new other place begun
  stayed other differ place begun is = record {
    named = means_other other differ ∙ is.named;
    stands = ap (λ (all : List Begun). slice_get all place) more.more.all ∙ got_before old.all place begun newest is.stands;
  }

  begun_so : (request : Request) → IsFor request task → (other : List ℕ) (own : Bool) → bytes_eq other name ≡ own → StandsSo new other (if own then Open request else stood_of other)
  begun_so request wanted other true same = record {
    place = length old.all;
    begun = newest;
    found = record {
      is = record { named = means_own other same; stands = ap (λ (all : List Begun). slice_get all (length old.all)) more.more.all ∙ got_last old.all newest };
      since = subst (λ (from : ℕ). from ≤ length old.all) (sym more.more.open_from) tied.up_to;
      going = fresh_open chain task more.progress more.fresh;
    };
    wanted = wanted;
  }
  begun_so request wanted other false differ = kept_so old new other more.more.open_from (stayed other differ) (stood_of other) (tied.stands other)

  begun_below : (other : List ℕ) (place : ℕ) → means new.names other ≡ Some place → (own : Bool) → bytes_eq other name ≡ own → place < length new.all
  begun_below other place named true same =
      let last : length old.all ≡ place = cc (means_own other same, named) in
      omega (arith, last, one_more)
  begun_below other place named false differ = omega (arith, tied.below other place (sym (means_other other differ) ∙ named), one_more)

  begun_apart : (one other : List ℕ) (place : ℕ) → means new.names one ≡ Some place → means new.names other ≡ Some place
      → (own again : Bool) → bytes_eq one name ≡ own → bytes_eq other name ≡ again → one ≡ other
  begun_apart one other place named twice true true first second = (bytes_eq-Decides one name).0 first ∙ sym ((bytes_eq-Decides other name).0 second)
  begun_apart one other place named twice true false first second =
      let last : length old.all ≡ place = cc (means_own one first, named) in
      let before : place < length old.all = tied.below other place (sym (means_other other second) ∙ twice) in
      absurd (omega (arith, last, before))
  begun_apart one other place named twice false true first second =
      let last : length old.all ≡ place = cc (means_own other second, twice) in
      let before : place < length old.all = tied.below one place (sym (means_other one first) ∙ named) in
      absurd (omega (arith, last, before))
  begun_apart one other place named twice false false first second =
      tied.apart one other place (sym (means_other one first) ∙ named) (sym (means_other other second) ∙ twice)

  pub begin_tied : (request : Request) → IsFor request task → AreTied (λ other. if bytes_eq other name then Open request else stood_of other) new
  begin_tied request wanted = record {
    stands = λ other. begun_so request wanted other (bytes_eq other name) refl;
    below = λ other place named. begun_below other place named (bytes_eq other name) refl;
    apart = λ one other place named twice. begun_apart one other place named twice (bytes_eq one name) (bytes_eq other name) refl refl;
    up_to = omega (arith, more.more.open_from, tied.up_to, one_more);
  }

module _ {S L C : Type 0} (sv : S → StoreView) (lv : L → LinkView) (before after : State S L C) (accepts : Accepts) where
  -- an open operation that goes on stays open
  steps_open : (from to : Progress) (n : ℕ) → Steps sv lv before after accepts from to n → is_open from ≡ true → is_open to ≡ true
  steps_open progresses.Closed to n steps going = absurd cc
  steps_open (progresses.InEntry from) progresses.Closed n steps going = absurd steps
  steps_open (progresses.InEntry from) (progresses.InEntry to) n steps going = refl
  steps_open (progresses.InEntry from) (progresses.InNewest to) n steps going = absurd steps
  steps_open (progresses.InNewest from) progresses.Closed n steps going = absurd steps
  steps_open (progresses.InNewest from) (progresses.InEntry to) n steps going = absurd steps
  steps_open (progresses.InNewest from) (progresses.InNewest to) n steps going = refl

  pub step_tied : (stood_of : List ℕ → Stood) (old new : Operations) (name : List ℕ) (n : ℕ) → AreTied stood_of old → StepsNamed sv lv before after accepts old new name n → AreTied stood_of new
  step_tied stood_of old new name n tied (inl stepped) =
      let going = steps_open stepped.begun.progress stepped.progress n stepped.steps stepped.found.going in
      subst (λ (operations : Operations). AreTied stood_of operations) (sym stepped.stands)
      (going_tied stood_of old tied name stepped.place stepped.begun stepped.found.is stepped.progress going)
  step_tied stood_of old new name n tied (inr none) = subst (λ (operations : Operations). AreTied stood_of operations) (sym none.1) tied
