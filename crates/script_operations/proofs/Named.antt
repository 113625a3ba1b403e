-- Operations by name: which one is meant, and what there is where it has come further.
use Rattle.std.proofs.Common.{◌≡◌, ◌≤◌, ◌<◌, ℕ, true, false, List, length, map, slice_get, slice_set, slice_index_or, Option, Some, None, Result, Ok, Err, inl, inr, refl, sym, ap, ◌∙◌, subst}
use Rattle.std.specs.Prelude.{IfOk, IfSome, IfNone, MatchOption}
use Rattle.std.specs.List.{AllByRecursion}
use Rattle.client_acts.specs.ClientActs.{ClientActs}
use Rattle.client_acts.specs.Turns.{TurnsAt}
use Rattle.name_map.specs.NameMap.{means}
use Rattle.port.specs.Link.{LinkView}
use Rattle.port.specs.Reply.{LatestReply}
use Rattle.port.specs.Store.{StoreView}
use Rattle.view_ledger.specs.Receipts.{Accepts}
use Rattle.coordinator.specs.State.{State}
use Rattle.answer_lines.specs.Giving.{OnlyLearned}
use Rattle.roster_bank.specs.Counting.{served_count}
use Rattle.script_operations.specs.declared.operation.Operation.{Operation}
use Rattle.script_operations.specs.Giving.{Asks, GivesEnd, HasFinished, HasGiven, HasRetried, NoneReads, TakesReply}
use Rattle.script_operations.specs.Operations.{Begun, Closed, InEntry, InNewest, IsNamed, IsOpen, IsOpenRead, NoneIsOpen, Operations, Progress, at_progress, begun_of, is_open, task_in, tasks_of, with_begun}
use Rattle.script_operations.specs.Stepping.{Steps, StepsNamed}
use Rattle.script_operations.specs.Task.{Task, client_of}
use Rattle.script_operations.proofs.Tasks.{get_seen, map_set, one_of, seen_same, set_same, stood}

-- what is seen of the fields
abbrev pub seen_of : List Operation → List (List ℕ × ℕ) → ℕ → Operations
seen_of items names open_from = record { all = map begun_of items; names = names; open_from = open_from }

abbrev begun_with : Task → List ℕ → Progress → Begun
begun_with task label progress = record { task = task; label = label; progress = progress }

abbrev with_all : Operations → List Begun → Operations
with_all was all = record { all = all; names = was.names; open_from = was.open_from }

module _ (items : List Operation) (names : List (List ℕ × ℕ)) (open_from : ℕ) (was : Operations) (seen : seen_of items names open_from ≡ was) (place : ℕ) (old : Operation)
    (below : place < length was.all) (read : old ≡ slice_index_or items place old) where
  pub stands : slice_get was.all place ≡ Some (begun_of old)
  stands = stood begun_of items was.all place old (ap (λ (o : Operations). o.all) seen) below read

  pub is_named : (name : List ℕ) → means was.names name ≡ Some place → IsNamed was name place (begun_of old)
  is_named name is = record { named = is; stands = stands }

  pub seen_with : (new : Operation) (next : Begun) → begun_of new ≡ next → seen_of (slice_set items place new) names open_from ≡ with_begun was place next
  seen_with new next same =
      ap (λ (all : List Begun). with_all (seen_of items names open_from) all) (map_set begun_of items place new)
      ∙ ap (λ (begun : Begun). with_begun (seen_of items names open_from) place begun) same
      ∙ ap (λ (o : Operations). with_begun o place next) seen

module _ (was : Operations) (name : List ℕ) (place : ℕ) (begun : Begun) (is : IsNamed was name place begun) where
  -- no other one has the name
  same_one : (other : ℕ) (x : Begun) → IsNamed was name other x → x ≡ begun
  same_one other x named =
      let same : other ≡ place = cc (named.named, is.named) in
      let stood : slice_get was.all place ≡ Some x = subst (λ (n : ℕ). slice_get was.all n ≡ Some x) same named.stands in
      cc (stood, is.stands)

  same_place : (other : ℕ) (x : Begun) → IsNamed was name other x → other ≡ place
  same_place other x named = cc (named.named, is.named)

  none_open : is_open begun.progress ≡ false → NoneIsOpen was name
  none_open closed = λ other x open_one.
      let same = same_one other x open_one.is in
      absurd (cc (sym open_one.going ∙ ap (λ (b : Begun). is_open b.progress) same ∙ closed))

  none_reads : (IsOpenRead begun → ⊥) → NoneReads was name
  none_reads not_reads = λ other x open_one reads. not_reads (subst IsOpenRead (same_one other x open_one.is) reads)

  with_same : with_begun was place begun ≡ was
  with_same = ap (λ (all : List Begun). with_all was all) (set_same was.all place begun is.stands)

  pub tasks_same : (next : Begun) → next.task ≡ begun.task → tasks_of (with_begun was place next) ≡ tasks_of was
  tasks_same next same = seen_same task_in was.all place begun next is.stands same

  pub tasks_stay : (now : Operations) (next : Begun) → next.task ≡ begun.task → now ≡ with_begun was place next → tasks_of now ≡ tasks_of was
  tasks_stay now next same stands = ap tasks_of stands ∙ tasks_same next same

  pub has_task : (P : Task → Type 0) → AllByRecursion P (tasks_of was) → P begun.task
  has_task P all = one_of P (tasks_of was) place begun.task all (get_seen task_in was.all place begun is.stands)

  pub closed_one : (now : Operations) → now ≡ with_begun was place (at_progress begun Closed) → (other : ℕ) (x : Begun) → IsOpen was name other x → now ≡ with_begun was other (at_progress x Closed)
  closed_one now same other x open_one =
      same ∙ ap (λ (n : ℕ). with_begun was n (at_progress begun Closed)) (sym (same_place other x open_one.is))
      ∙ ap (λ (b : Begun). with_begun was other (at_progress b Closed)) (sym (same_one other x open_one.is))

  -- where none is open there is nothing to be closed
  pub none_closed : (progress : Progress) → begun.progress ≡ progress → was.open_from ≤ place → NoneIsOpen was name → with_begun was place (at_progress begun Closed) ≡ was
  none_closed Closed at since none = ap (λ (p : Progress). with_begun was place (at_progress begun p)) (sym at) ∙ with_same
  none_closed (InEntry state) at since none = absurd (none place begun (record { is = is; since = since; going = ap is_open at }))
  none_closed (InNewest state) at since none = absurd (none place begun (record { is = is; since = since; going = ap is_open at }))

  -- an operation was stepped
  module _ {S L C : Type 0} (sv : S → StoreView) (lv : L → LinkView) (before after : State S L C) (accepts : Accepts) (since : was.open_from ≤ place) (now : Operations) (n : ℕ) where
    stepped : (progress next : Progress) → begun.progress ≡ progress → Steps sv lv before after accepts progress next n → now ≡ with_begun was place (at_progress begun next)
        → StepsNamed sv lv before after accepts was now name n
    stepped Closed Closed at steps same =
        inr (none_open (ap is_open at), same ∙ ap (λ (p : Progress). with_begun was place (at_progress begun p)) (sym at) ∙ with_same, steps)
    stepped (InEntry one) (InEntry two) at steps same = inl (record {
      place = place;
      begun = begun;
      found = record { is = is; since = since; going = ap is_open at };
      progress = InEntry two;
      steps = subst (λ (p : Progress). Steps sv lv before after accepts p (InEntry two) n) (sym at) steps;
      stands = same;
    })
    stepped (InNewest one) (InNewest two) at steps same = inl (record {
      place = place;
      begun = begun;
      found = record { is = is; since = since; going = ap is_open at };
      progress = InNewest two;
      steps = subst (λ (p : Progress). Steps sv lv before after accepts p (InNewest two) n) (sym at) steps;
      stands = same;
    })
    stepped Closed (InEntry two) at steps same = absurd steps
    stepped Closed (InNewest two) at steps same = absurd steps
    stepped (InEntry one) Closed at steps same = absurd steps
    stepped (InEntry one) (InNewest two) at steps same = absurd steps
    stepped (InNewest one) Closed at steps same = absurd steps
    stepped (InNewest one) (InEntry two) at steps same = absurd steps

    pub steps_named : (next : Begun) → next ≡ at_progress begun next.progress → Steps sv lv before after accepts begun.progress next.progress n → now ≡ with_begun was place next
        → StepsNamed sv lv before after accepts was now name n
    steps_named next kept steps same = stepped begun.progress next.progress refl steps (same ∙ ap (with_begun was place) kept)

  module _ {S L C : Type 0} (accepts : C → Accepts) (sv : S → StoreView) (lv : L → LinkView) (checks : Accepts) (old new : ClientActs C) (before after : State S L C) where
    open_by : (task : Task) (label : List ℕ) (progress : Progress) (line : List ℕ) → GivesEnd accepts sv lv checks name old new before after task label progress line → is_open progress ≡ true
    open_by task label Closed line end = absurd end.came.ended
    open_by task label (InEntry state) line end = refl
    open_by task label (InNewest state) line end = refl

    module _ {T E : Type 0} (bytes : T → List ℕ) (now : Operations) where
      -- its client was given its answer
      pub finished : (result : Result (Option T) E) → was.open_from ≤ place → now ≡ with_begun was place (at_progress begun Closed)
          → IfOk result (λ line. MatchOption line ((begun.progress ≡ Closed) × (new ≡ old) × (after ≡ before))
          (λ line. GivesEnd accepts sv lv checks name old new before after begun.task begun.label begun.progress (bytes line)))
          → IfOk result (λ line. MatchOption line (NoneIsOpen was name × (now ≡ was) × (new ≡ old) × (after ≡ before))
          (λ line. HasFinished accepts sv lv checks name old new before after was now (bytes line)))
      finished (Err e) since same said = tt
      finished (Ok None) since same said =
          (none_open (ap is_open said.0), same ∙ ap (λ (p : Progress). with_begun was place (at_progress begun p)) (sym said.0) ∙ with_same, said.1, said.2)
      finished (Ok (Some line)) since same said = record {
        place = place;
        begun = begun;
        found = record { is = is; since = since; going = open_by begun.task begun.label begun.progress (bytes line) said };
        end = said;
        closed = same;
      }

      -- its client was given a reply
      pub given : OnlyLearned accepts sv lv before after → TurnsAt (client_of begun.task) (served_count (lv before.link)) old.turns new.turns → (reply : LatestReply) (next : Begun) (result : Result (Option T) E) → was.open_from ≤ place → now ≡ with_begun was place next
          → IfOk result (λ line. MatchOption line ((IsOpenRead begun → ⊥) × (next ≡ begun) × (new ≡ old) × (after ≡ before))
          (λ line. (next ≡ at_progress begun Closed) × TakesReply checks name begun old new before after reply (bytes line)))
          → IfOk result (λ line. MatchOption line (NoneReads was name × (now ≡ was) × (new ≡ old) × (after ≡ before))
          (λ line. HasGiven accepts sv lv checks name old new before after was now reply (bytes line)))
      given learned turned reply next (Err e) since same said = tt
      given learned turned reply next (Ok None) since same said = (none_reads said.0, same ∙ ap (with_begun was place) said.1 ∙ with_same, said.2, said.3)
      given learned turned reply next (Ok (Some line)) since same said = record {
        place = place;
        begun = begun;
        found = record { is = is; since = since; going = said.1.reads.5 };
        takes = said.1;
        learned = learned;
        turns = turned;
        closed = same ∙ ap (with_begun was place) said.0;
      }

-- ---- an operation that was read at the place that its name means, and set again there

module _ (items : List Operation) (names : List (List ℕ × ℕ)) (open_from : ℕ) (was : Operations) (seen : seen_of items names open_from ≡ was) (place : ℕ) (one : Operation)
    (below : place < length was.all) (read : one ≡ slice_index_or items place one) (name : List ℕ) (named : means was.names name ≡ Some place) where
  here : IsNamed was name place (begun_of one)
  here = is_named items names open_from was seen place one below read name named

  abbrev set_to : Operation → Operations
  set_to next = seen_of (slice_set items place next) names open_from

  set_is : (next : Operation) (begun : Begun) → begun_of next ≡ begun → set_to next ≡ with_begun was place begun
  set_is next begun same = seen_with items names open_from was seen place one below read next begun same

  pub one_has : (P : Task → Type 0) → AllByRecursion P (tasks_of was) → P (begun_of one).task
  one_has P all = has_task was name place (begun_of one) here P all

  pub tasks_kept : (next : Operation) → (begun_of next).task ≡ (begun_of one).task → tasks_of (seen_of (slice_set items place next) names open_from) ≡ tasks_of was
  tasks_kept next same = tasks_stay was name place (begun_of one) here (set_to next) (begun_of next) same (set_is next (begun_of next) refl)

  pub one_closed : (next : Operation) → begun_of next ≡ at_progress (begun_of one) Closed
      → (other : ℕ) (x : Begun) → IsOpen was name other x → seen_of (slice_set items place next) names open_from ≡ with_begun was other (at_progress x Closed)
  one_closed next same = closed_one was name place (begun_of one) here (set_to next) (set_is next (at_progress (begun_of one) Closed) same)

  pub one_stays_closed : (next : Operation) → begun_of next ≡ at_progress (begun_of one) Closed → was.open_from ≤ place → NoneIsOpen was name → seen_of (slice_set items place next) names open_from ≡ was
  one_stays_closed next same since none = set_is next (at_progress (begun_of one) Closed) same ∙ none_closed was name place (begun_of one) here (begun_of one).progress refl since none

  pub one_stepped : {S L C : Type 0} (sv : S → StoreView) (lv : L → LinkView) (before after : State S L C) (accepts : Accepts) (n : ℕ) (next : Operation) → was.open_from ≤ place
      → begun_of next ≡ at_progress (begun_of one) (begun_of next).progress → Steps sv lv before after accepts (begun_of one).progress (begun_of next).progress n
      → StepsNamed sv lv before after accepts was (seen_of (slice_set items place next) names open_from) name n
  one_stepped sv lv before after accepts n next since kept steps =
      steps_named was name place (begun_of one) here sv lv before after accepts since (set_to next) n (begun_of next) kept steps (set_is next (begun_of next) refl)

  module _ {S L C T E : Type 0} (accepts : C → Accepts) (sv : S → StoreView) (lv : L → LinkView) (checks : Accepts) (old new : ClientActs C) (before after : State S L C) (bytes : T → List ℕ) where
    pub one_finished : (next : Operation) (result : Result (Option T) E) → was.open_from ≤ place → begun_of next ≡ at_progress (begun_of one) Closed
        → IfOk result (λ line. MatchOption line (((begun_of one).progress ≡ Closed) × (new ≡ old) × (after ≡ before))
        (λ line. GivesEnd accepts sv lv checks name old new before after (begun_of one).task (begun_of one).label (begun_of one).progress (bytes line)))
        → IfOk result (λ line. MatchOption line (NoneIsOpen was name × (seen_of (slice_set items place next) names open_from ≡ was) × (new ≡ old) × (after ≡ before))
        (λ line. HasFinished accepts sv lv checks name old new before after was (seen_of (slice_set items place next) names open_from) (bytes line)))
    one_finished next result since closed said =
        finished was name place (begun_of one) here accepts sv lv checks old new before after bytes (set_to next) result since (set_is next (at_progress (begun_of one) Closed) closed) said

    pub one_given : OnlyLearned accepts sv lv before after → TurnsAt (client_of (begun_of one).task) (served_count (lv before.link)) old.turns new.turns → (reply : LatestReply) (next : Operation) (result : Result (Option T) E) → was.open_from ≤ place
        → IfOk result (λ line. MatchOption line ((IsOpenRead (begun_of one) → ⊥) × (begun_of next ≡ begun_of one) × (new ≡ old) × (after ≡ before))
        (λ line. (begun_of next ≡ at_progress (begun_of one) Closed) × TakesReply checks name (begun_of one) old new before after reply (bytes line)))
        → IfOk result (λ line. MatchOption line (NoneReads was name × (seen_of (slice_set items place next) names open_from ≡ was) × (new ≡ old) × (after ≡ before))
        (λ line. HasGiven accepts sv lv checks name old new before after was (seen_of (slice_set items place next) names open_from) reply (bytes line)))
    one_given learned turned reply next result since said =
        given was name place (begun_of one) here accepts sv lv checks old new before after bytes (set_to next) learned turned reply (begun_of next) result since (set_is next (begun_of next) refl) said

  pub one_retried : {S L C : Type 0} (accepts : C → Accepts) (sv : S → StoreView) (lv : L → LinkView) (checks : Accepts) (old new : ClientActs C) (before after : State S L C) (line : List ℕ)
      → Asks accepts sv lv checks name old new before after (begun_of one).task (begun_of one).label line → HasRetried accepts sv lv checks name old new before after was line
  one_retried accepts sv lv checks old new before after line asked = record { place = place; begun = begun_of one; is = here; asked = asked }

  -- whose read it is
  module _ {R : Type 0} (task_by : R → ℕ → Task) where
    pub one_reads : (found : Option R) → was.open_from ≤ place
        → IfSome found (λ r. (draw : ℕ) × (label : List ℕ) × (progress : Progress) × (is_open progress ≡ true) × (begun_of one ≡ record { task = task_by r draw; label = label; progress = progress }))
        → IfSome found (λ r. (place : ℕ) × (draw : ℕ) × (label : List ℕ) × (progress : Progress) × IsOpen was name place (record { task = task_by r draw; label = label; progress = progress }))
    one_reads None since said = tt
    one_reads (Some r) since (draw, label, progress, going, same) =
        (place, draw, label, progress, record { is = subst (λ (begun : Begun). IsNamed was name place begun) same here; since = since; going = going })

  pub one_reads_not : {R : Type 0} (found : Option R) → IfNone found (IsOpenRead (begun_of one) → ⊥) → IfNone found (NoneReads was name)
  one_reads_not None said = none_reads was name place (begun_of one) here said
  one_reads_not (Some r) said = tt

-- what is read of an operation for a newest row
pub newest_reads : {R : Type 0} (task_by : R → ℕ → Task) (found : Option R) (draw : ℕ) (one begun : Begun) → one ≡ begun → IfSome found (λ r. (is_open begun.progress ≡ true) × (task_by r draw ≡ begun.task))
    → IfSome found (λ r. (draw : ℕ) × (label : List ℕ) × (progress : Progress) × (is_open progress ≡ true) × (one ≡ record { task = task_by r draw; label = label; progress = progress }))
newest_reads task_by None draw one begun same said = tt
newest_reads task_by (Some r) draw one begun same said =
    (draw, begun.label, begun.progress, said.0, same ∙ ap (λ (task : Task). begun_with task begun.label begun.progress) (sym said.1))
