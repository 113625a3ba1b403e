-- What the steps and the end of an operation add to what was served, and what is known of all operations then.
use Rattle.std.proofs.Common.{◌≡◌, ℕ, zero, suc, List, [], ◌∷◌, ◌++◌, slice_get, slice_set, Some, refl, sym, subst}
use Rattle.std.specs.List.{AllByRecursion}
use Rattle.blob_store.specs.declared.lying_store.LyingStore.{LyingStore}
use Rattle.blob_store.specs.LyingStore.{held_in, lying_view}
use Rattle.chain_block.specs.declared.entry.Entry.{Entry}
use Rattle.chain_block.specs.declared.entry.Entry.TheVariants as entries
use Rattle.port.specs.declared.key.Key.{Key}
use Rattle.port.specs.Contents.{Contents}
use Rattle.port.specs.Service.{Knew, Refused, Replied, ServiceAnswer, Stood}
use Rattle.port.specs.Trace.{Event}
use Rattle.view_ledger.specs.Receipts.{Accepts}
use Rattle.view_ledger.specs.Views.{ViewChain}
use Rattle.endorser_cell.specs.CellBank.{CellBank, bank_view}
use Rattle.op_entry.specs.Ask.{Ask, ReadAt}
use Rattle.op_entry.specs.Laws.{OwnCalls}
use Rattle.op_entry.specs.Sound.{Sound}
use Rattle.op_entry.specs.State.{State as EntryState, is_live as is_entry_live}
use Rattle.op_latest.specs.LatestAsked.{LatestAsk}
use Rattle.op_latest.specs.LatestSound.{LatestSound}
use Rattle.op_latest.specs.LatestState.{State as LatestState, is_live as is_latest_live}
use Rattle.coordinator.specs.Calls.{OfReply, OfStanding}
use Rattle.coordinator.specs.State.{State}
use Rattle.coordinator.specs.Stepping.{Calls}
use Rattle.script_operations.specs.Ending.{CameTo, Ends, EndsEntry, EndsLatest}
use Rattle.script_operations.specs.Operations.{Begun, Closed, InEntry, InNewest, IsFresh, Progress}
use Rattle.script_operations.specs.Stepping.{GoesFor, Steps}
use Rattle.script_operations.specs.Task.{Height, Newest, Own, Task, ask_for}
use Rattle.script_runs.proofs.CoordinatorCalls.{InProgress, IsOwnTask, OwnLaws, ReadsBy, sound_reads}
use Rattle.script_runs.proofs.KeptCalls.{Lifts, all_append, all_known_lift, all_lift}
use Rattle.script_runs.proofs.LinkCalls.{IsSeen, Went, WentBy, went_by, went_not}
use Rattle.script_runs.proofs.OperationCalls.{IsOwnAsk, IsOwnEntry, ReadCalls, entry_asks, entry_puts, read_asks, read_calls, read_puts}
use Rattle.script_runs.proofs.StandingRows.{AllKnown}

own_ask : (drawn : Entry → Type 0) (entry : Entry) → IsOwnEntry drawn entry → IsOwnAsk drawn (ask_for entry)
own_ask drawn (entries.Genesis nonce payload) own = own
own_ask drawn (entries.Later handle height nonce payload) own = own

module _ {S C : Type 0} (key : S → List ℕ) (left : S → ℕ) (accepts : C → Accepts) (laws : OwnLaws) (checks : Accepts) (drawn : Entry → Type 0) (forked : List Key) where
  abbrev Held : Type 0
  Held = State LyingStore (CellBank S C) C

  abbrev Before : Held → List Event → Type 0
  Before state past = AllKnown drawn forked (held_in state.store).contents past

  abbrev Sees : Held → Type 0
  Sees state = IsSeen key left accepts drawn forked state.store state.link

  abbrev Moves : (List ℕ → List ℕ → Type 0) → Held → Held → Type 0
  Moves reads old new = Went key left accepts drawn forked reads old.store old.link new.store new.link

  entry_by : (reads : List ℕ → List ℕ → Type 0) (ask : Ask) (before after : Held) (events past : List Event) (chain : ViewChain) → Calls lying_view (bank_view key left accepts) before events after → Sees before
      → IsOwnAsk drawn ask → Before before past → OwnCalls checks ask chain.configs (events ++ past) → WentBy key left accepts drawn forked reads before.store before.link after.store after.link events
  entry_by reads ask before after events past chain calls seen own known all =
      went_by key left accepts drawn forked laws.rows reads before.store after.store before.link after.link events calls.ran seen
      (entry_puts checks drawn ask chain.configs events past own all)
      (λ holds. entry_asks checks drawn forked (held_in after.store).contents reads ask chain.configs events past
      (all_append _ events past holds.known (all_known_lift drawn drawn forked forked (held_in before.store).contents (held_in after.store).contents holds.lifts past known)) all)

  read_by : (reads : List ℕ → List ℕ → Type 0) (ask : LatestAsk) (before after : Held) (events past : List Event) → Calls lying_view (bank_view key left accepts) before events after → Sees before
      → reads ask.handle ask.nonce → Before before past → ReadCalls ask (events ++ past) → WentBy key left accepts drawn forked reads before.store before.link after.store after.link events
  read_by reads ask before after events past calls seen read known all =
      went_by key left accepts drawn forked laws.rows reads before.store after.store before.link after.link events calls.ran seen
      (read_puts drawn forked (held_in after.store).contents reads ask events past all)
      (λ holds. read_asks drawn forked (held_in after.store).contents reads ask events past
      (all_append _ events past holds.known (all_known_lift drawn drawn forked forked (held_in before.store).contents (held_in after.store).contents holds.lifts past known)) read all)

  later_known : (reads : List ℕ → List ℕ → Type 0) (before after : Held) (events past : List Event) → WentBy key left accepts drawn forked reads before.store before.link after.store after.link events → Before before past
      → Before after (events ++ past)
  later_known reads before after events past by known =
      all_append _ events past by.known (all_known_lift drawn drawn forked forked (held_in before.store).contents (held_in after.store).contents by.went.lifts past known)

  -- ---- steps

  abbrev At : Held → Task → Progress → Type 0
  At state task progress = InProgress checks drawn forked (held_in state.store).contents task progress

  step_entry : (reads : List ℕ → List ℕ → Type 0) (ask : Ask) (before after : Held) (old new : EntryState) (n : ℕ) → GoesFor lying_view (bank_view key left accepts) before after (Sound checks) is_entry_live old new n
      → Sees before → IsOwnAsk drawn ask → (from : ViewChain) (past : List Event) → Sound checks ask from old past → Before before past
      → Moves reads before after × ((now : List Event) × Sound checks ask from new now × Before after now)
  step_entry reads ask before after old new n goes seen own from past sound known =
      let events = goes.goes.events in
      let sound_now = goes.goes.leads ask from past sound in
      let by = entry_by reads ask before after events past new.chain goes.goes.calls seen own known (laws.entry checks ask from new (events ++ past) sound_now) in
      (by.went, (events ++ past, sound_now, later_known reads before after events past by known))

  step_read : (reads : List ℕ → List ℕ → Type 0) (ask : LatestAsk) (before after : Held) (old new : LatestState) (n : ℕ) → GoesFor lying_view (bank_view key left accepts) before after (LatestSound checks) is_latest_live old new n
      → Sees before → reads ask.handle ask.nonce → (from : ViewChain) (past : List Event) → LatestSound checks ask from old past → Before before past
      → Moves reads before after × ((now : List Event) × LatestSound checks ask from new now × Before after now)
  step_read reads ask before after old new n goes seen read from past sound known =
      let events = goes.goes.events in
      let sound_now = goes.goes.leads ask from past sound in
      let by = read_by reads ask before after events past goes.goes.calls seen read known (sound_reads laws checks ask from new (events ++ past) sound_now) in
      (by.went, (events ++ past, sound_now, later_known reads before after events past by known))

  -- the steps of an operation
  pub steps_go : (reads : List ℕ → List ℕ → Type 0) (task : Task) (before after : Held) (old new : Progress) (n : ℕ) → ((handle number : List ℕ) → ReadsBy task handle number → reads handle number)
      → Steps lying_view (bank_view key left accepts) before after checks old new n → Sees before → IsOwnTask drawn task → At before task old → Moves reads before after × At after task new
  steps_go reads task before after Closed Closed n read steps seen own at =
      (subst (λ (x : Held). Moves reads before x) (sym steps) (went_not key left accepts drawn forked reads before.store before.link seen), tt)
  steps_go reads (Own client draw entry) before after (InEntry old) (InEntry new) n read steps seen own (from, past, sound, known) =
      let by = step_entry reads (ask_for entry) before after old new n steps seen (own_ask drawn entry own) from past sound known in
      (by.0, (from, by.1.0, by.1.1, by.1.2))
  steps_go reads (Newest client draw handle nonce) before after (InEntry old) (InEntry new) n read steps seen own at = absurd at
  steps_go reads (Height client handle height) before after (InEntry old) (InEntry new) n read steps seen own (from, past, sound, known) =
      let by = step_entry reads (ReadAt handle height) before after old new n steps seen tt from past sound known in
      (by.0, (from, by.1.0, by.1.1, by.1.2))
  steps_go reads (Own client draw entry) before after (InNewest old) (InNewest new) n read steps seen own at = absurd at
  steps_go reads (Newest client draw handle nonce) before after (InNewest old) (InNewest new) n read steps seen own (from, past, sound, known) =
      let by = step_read reads (record { handle = handle; nonce = nonce }) before after old new n steps seen (read handle nonce (client, draw, refl)) from past sound known in
      (by.0, (from, by.1.0, by.1.1, by.1.2))
  steps_go reads (Height client handle height) before after (InNewest old) (InNewest new) n read steps seen own at = absurd at
  steps_go reads task before after Closed (InEntry new) n read steps seen own at = absurd steps
  steps_go reads task before after Closed (InNewest new) n read steps seen own at = absurd steps
  steps_go reads task before after (InEntry old) Closed n read steps seen own at = absurd steps
  steps_go reads task before after (InEntry old) (InNewest new) n read steps seen own at = absurd steps
  steps_go reads task before after (InNewest old) Closed n read steps seen own at = absurd steps
  steps_go reads task before after (InNewest old) (InEntry new) n read steps seen own at = absurd steps

  -- ---- the end

  end_of_entry : (ask : Ask) (state : EntryState) (events : List Event) (answer : ServiceAnswer) → OfStanding (EndsEntry checks state events) answer → (from : ViewChain) (past : List Event) → Sound checks ask from state past
      → (chain : ViewChain) × OwnCalls checks ask chain.configs (events ++ past)
  end_of_entry ask state events (Stood standing) ends from past sound = let e = ends ask from past sound in (e.0, e.1.own)
  end_of_entry ask state events (Refused cause) ends from past sound = let e = ends ask from past sound in (e.0, e.1.own)
  end_of_entry ask state events (Replied reply) ends from past sound = absurd ends
  end_of_entry ask state events (Knew rows) ends from past sound = absurd ends

  end_of_read : (ask : LatestAsk) (state : LatestState) (events : List Event) (answer : ServiceAnswer) → OfReply (EndsLatest checks state events) answer → (from : ViewChain) (past : List Event) → LatestSound checks ask from state past
      → ReadCalls ask (events ++ past)
  end_of_read ask state events (Replied reply) ends from past sound = let e = ends ask from past sound in read_calls checks ask e.0 (events ++ past) e.1.own
  end_of_read ask state events (Refused cause) ends from past sound = let e = ends ask from past sound in read_calls checks ask e.0 (events ++ past) e.1.own
  end_of_read ask state events (Stood standing) ends from past sound = absurd ends
  end_of_read ask state events (Knew rows) ends from past sound = absurd ends

  end_entry : (reads : List ℕ → List ℕ → Type 0) (ask : Ask) (state : EntryState) (before after : Held) (answer : ServiceAnswer)
      → CameTo lying_view (bank_view key left accepts) before after (λ events. OfStanding (EndsEntry checks state events) answer) → Sees before → IsOwnAsk drawn ask
      → (from : ViewChain) (past : List Event) → Sound checks ask from state past → Before before past → Moves reads before after
  end_entry reads ask state before after answer came seen own from past sound known =
      let e = end_of_entry ask state came.events answer came.ended from past sound in
      (entry_by reads ask before after came.events past e.0 came.calls seen own known e.1).went

  end_read : (reads : List ℕ → List ℕ → Type 0) (ask : LatestAsk) (state : LatestState) (before after : Held) (answer : ServiceAnswer)
      → CameTo lying_view (bank_view key left accepts) before after (λ events. OfReply (EndsLatest checks state events) answer) → Sees before → reads ask.handle ask.nonce
      → (from : ViewChain) (past : List Event) → LatestSound checks ask from state past → Before before past → Moves reads before after
  end_read reads ask state before after answer came seen read from past sound known =
      (read_by reads ask before after came.events past came.calls seen read known (end_of_read ask state came.events answer came.ended from past sound)).went

  -- an operation was led to its answer
  pub end_goes : (reads : List ℕ → List ℕ → Type 0) (task : Task) (progress : Progress) (before after : Held) (answer : ServiceAnswer) → ((handle number : List ℕ) → ReadsBy task handle number → reads handle number)
      → CameTo lying_view (bank_view key left accepts) before after (λ events. Ends checks progress events answer) → Sees before → IsOwnTask drawn task → At before task progress → Moves reads before after
  end_goes reads task Closed before after answer read came seen own at = absurd came.ended
  end_goes reads (Own client draw entry) (InEntry state) before after answer read came seen own (from, past, sound, known) =
      end_entry reads (ask_for entry) state before after answer came seen (own_ask drawn entry own) from past sound known
  end_goes reads (Newest client draw handle nonce) (InEntry state) before after answer read came seen own at = absurd at
  end_goes reads (Height client handle height) (InEntry state) before after answer read came seen own (from, past, sound, known) =
      end_entry reads (ReadAt handle height) state before after answer came seen tt from past sound known
  end_goes reads (Own client draw entry) (InNewest state) before after answer read came seen own at = absurd at
  end_goes reads (Newest client draw handle nonce) (InNewest state) before after answer read came seen own (from, past, sound, known) =
      end_read reads (record { handle = handle; nonce = nonce }) state before after answer came seen (read handle nonce (client, draw, refl)) from past sound known
  end_goes reads (Height client handle height) (InNewest state) before after answer read came seen own at = absurd at

-- ---- all operations

module _ (checks : Accepts) where
  -- it was begun for an entry that was drawn, or to read, and what its calls told is known
  pub record IsGoing (drawn : Entry → Type 0) (forked : List Key) (contents : Contents) (begun : Begun) : Type 0 where
    pub task : IsOwnTask drawn begun.task
    pub progress : InProgress checks drawn forked contents begun.task begun.progress

  abbrev pub AllGo : (Entry → Type 0) → List Key → Contents → List Begun → Type 0
  AllGo drawn forked contents all = AllByRecursion (IsGoing drawn forked contents) all

  module _ (drawn drawn' : Entry → Type 0) (forked forked' : List Key) (contents contents' : Contents) (more : (entry : Entry) → drawn entry → drawn' entry) (lifts : Lifts drawn forked contents drawn' forked' contents') where
    task_lift : (task : Task) → IsOwnTask drawn task → IsOwnTask drawn' task
    task_lift (Own client draw entry) (stored, was) = (stored, more entry was)
    task_lift (Newest client draw handle nonce) own = tt
    task_lift (Height client handle height) own = tt

    progress_lift : (task : Task) (progress : Progress) → InProgress checks drawn forked contents task progress → InProgress checks drawn' forked' contents' task progress
    progress_lift task Closed at = tt
    progress_lift (Own client draw entry) (InEntry state) (from, past, sound, known) = (from, past, sound, all_known_lift drawn drawn' forked forked' contents contents' lifts past known)
    progress_lift (Own client draw entry) (InNewest state) at = absurd at
    progress_lift (Newest client draw handle nonce) (InNewest state) (from, past, sound, known) = (from, past, sound, all_known_lift drawn drawn' forked forked' contents contents' lifts past known)
    progress_lift (Newest client draw handle nonce) (InEntry state) at = absurd at
    progress_lift (Height client handle height) (InEntry state) (from, past, sound, known) = (from, past, sound, all_known_lift drawn drawn' forked forked' contents contents' lifts past known)
    progress_lift (Height client handle height) (InNewest state) at = absurd at

    pub all_go_on : (all : List Begun) → AllGo drawn forked contents all → AllGo drawn' forked' contents' all
    all_go_on all going = all_lift (IsGoing drawn forked contents) (IsGoing drawn' forked' contents')
        (λ begun is. record { task = task_lift begun.task is.task; progress = progress_lift begun.task begun.progress is.progress }) all going

  module _ (drawn : Entry → Type 0) (forked : List Key) (contents : Contents) where
    pub going_at : (all : List Begun) (place : ℕ) (begun : Begun) → slice_get all place ≡ Some begun → AllGo drawn forked contents all → IsGoing drawn forked contents begun
    going_at [] place begun stood all = absurd cc
    going_at (first ∷ rest) zero begun stood all = let same : first ≡ begun = cc stood in subst (IsGoing drawn forked contents) same all.0
    going_at (first ∷ rest) (suc place) begun stood all = going_at rest place begun stood all.1

    pub going_set : (all : List Begun) (place : ℕ) (begun : Begun) → IsGoing drawn forked contents begun → AllGo drawn forked contents all → AllGo drawn forked contents (slice_set all place begun)
    going_set [] place begun is all = tt
    going_set (first ∷ rest) zero begun is all = (is, all.1)
    going_set (first ∷ rest) (suc place) begun is all = (all.0, going_set rest place begun is all.1)

    pub going_fresh : (chain : ViewChain) (task : Task) (progress : Progress) (label : List ℕ) → IsFresh chain task progress → IsOwnTask drawn task
        → IsGoing drawn forked contents (record { task = task; label = label; progress = progress })
    going_fresh chain task progress label fresh own = record { task = own; progress = by task progress fresh }
      where
        by : (task : Task) (progress : Progress) → IsFresh chain task progress → InProgress checks drawn forked contents task progress
        by (Own client draw entry) (InEntry state) fresh = (chain, [], fresh.0 checks, tt)
        by (Newest client draw handle nonce) (InNewest state) fresh = (chain, [], fresh.0 checks, tt)
        by (Height client handle height) (InEntry state) fresh = (chain, [], fresh.0 checks, tt)
        by (Own client draw entry) Closed fresh = absurd fresh
        by (Own client draw entry) (InNewest state) fresh = absurd fresh
        by (Newest client draw handle nonce) Closed fresh = absurd fresh
        by (Newest client draw handle nonce) (InEntry state) fresh = absurd fresh
        by (Height client handle height) Closed fresh = absurd fresh
        by (Height client handle height) (InNewest state) fresh = absurd fresh
