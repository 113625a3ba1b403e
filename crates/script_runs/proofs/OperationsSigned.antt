-- Operations that are run by hand leave only receipts whose marks were signed, and come to answers with no others.
use Rattle.std.proofs.Common.{◌≡◌, ℕ, zero, suc, List, [], ◌∷◌, ◌++◌, slice_get, slice_set, Some, Result, Ok, Err, subst}
use Rattle.std.specs.List.{AllByRecursion}
use Rattle.blob_store.specs.declared.lying_store.LyingStore.{LyingStore}
use Rattle.blob_store.specs.LyingStore.{lying_view}
use Rattle.statement.specs.declared.member.Member.{Member}
use Rattle.port.specs.Cause.{Cause}
use Rattle.port.specs.Link.{Served}
use Rattle.port.specs.Reply.{LatestReply, Standing}
use Rattle.port.specs.Service.{Knew, Refused, Replied, ServiceAnswer, Stood}
use Rattle.port.specs.Trace.{Event, Ran}
use Rattle.view_ledger.specs.Receipts.{Accepts}
use Rattle.view_ledger.specs.Views.{ViewChain, newest_tail}
use Rattle.endorser_cell.specs.CellBank.{CellBank, bank_view}
use Rattle.op_entry.specs.Ask.{Ask, ReadAt}
use Rattle.op_entry.specs.Laws.{OwnCalls}
use Rattle.op_entry.specs.Sound.{IsAnswered, Sound}
use Rattle.op_entry.specs.State.{State as EntryState, is_live as is_entry_live}
use Rattle.op_latest.specs.LatestAsked.{LatestAsk}
use Rattle.op_latest.specs.LatestSays.{LatestSays}
use Rattle.op_latest.specs.LatestSound.{LatestSound}
use Rattle.op_latest.specs.LatestState.{State as LatestState, is_live as is_latest_live}
use Rattle.coordinator.specs.Calls.{OfReply, OfStanding}
use Rattle.coordinator.specs.State.{State}
use Rattle.script_operations.specs.Ending.{CameTo, Ends, EndsEntry, EndsLatest}
use Rattle.script_operations.specs.Operations.{Begun, Closed, InEntry, InNewest, IsFresh, Progress}
use Rattle.script_operations.specs.Stepping.{GoesFor, Steps}
use Rattle.script_operations.specs.Task.{Height, Newest, Own, Task, ask_for}
use Rattle.script_runs.proofs.AnswersSigned.{IsResultSigned, answered_signed}
use Rattle.script_runs.proofs.AttachedReceipts.{AreHeard, heard_on}
use Rattle.script_runs.proofs.ChainStays.{chain_stays}
use Rattle.script_runs.proofs.Going.{EntryCallsAreOwn}
use Rattle.script_runs.proofs.KeptCalls.{all_lift}
use Rattle.script_runs.proofs.NoFinals.{ran_none}
use Rattle.script_runs.proofs.OneState.{OneState, alone}
use Rattle.script_runs.proofs.OperationCalls.{read_calls}
use Rattle.script_runs.proofs.OwnAttaches.{AskFits, HaveIds, Limits}
use Rattle.script_runs.proofs.OwnStill.{entry_still}
use Rattle.script_runs.proofs.SignedCalls.{Signs}
use Rattle.script_runs.proofs.StatesSigned.{Answers, Marked, Stays, TaskFits, V, entry_stays, read_stays, reply_signed, served_by_now, stays_not}
use Rattle.script_runs.proofs.Still.{AreDry, IsDry, IsStill, all_front, all_join, grown_none}

module _ {S C : Type 0} (key : S → List ℕ) (left : S → ℕ) (accepts : C → Accepts) (checks : Accepts) (roster config : List Member) (limits : Limits checks) (ids : HaveIds config) (own : EntryCallsAreOwn) where
  abbrev Held : Type 0
  Held = State LyingStore (CellBank S C) C

  abbrev View : List ℕ
  View = V key left accepts checks roster config limits ids

  abbrev IsMarkedState : Held → Type 0
  IsMarkedState state = Marked key left accepts checks roster config limits ids state

  abbrev served : Held → List Served
  served state = served_by_now key left accepts checks roster config limits ids state

  abbrev StaysSo : Held → Held → Type 0
  StaysSo old new = Stays key left accepts checks roster config limits ids old new

  abbrev AnswersSo : Held → Held → ServiceAnswer → Type 0
  AnswersSo old new answer = Answers key left accepts checks roster config limits ids old new answer

  -- it came to this state by calls that told what is so, and told of no further view
  abbrev EntryHeard : List Served → Ask → EntryState → Type 0
  EntryHeard served ask state = (past : List Event) × Sound checks ask (alone roster config) state past × AreDry past × AreHeard View served past

  abbrev LatestHeard : List Served → LatestAsk → LatestState → Type 0
  LatestHeard served ask state = (from : ViewChain) × (past : List Event) × LatestSound checks ask from state past × AreHeard View served past

  -- the same of an operation for a task
  abbrev pub IsOnWay : List Served → Task → Progress → Type 0
  IsOnWay served task Closed = Unit {0}
  IsOnWay served (Own client draw entry) (InEntry state) = EntryHeard served (ask_for entry) state
  IsOnWay served (Own client draw entry) (InNewest state) = ⊥
  IsOnWay served (Newest client draw handle nonce) (InEntry state) = ⊥
  IsOnWay served (Newest client draw handle nonce) (InNewest state) = LatestHeard served (record { handle = handle; nonce = nonce }) state
  IsOnWay served (Height client handle height) (InEntry state) = EntryHeard served (ReadAt handle height) state
  IsOnWay served (Height client handle height) (InNewest state) = ⊥

  -- of an operation that was begun
  pub record IsHeard (served : List Served) (begun : Begun) : Type 0 where
    pub fits : TaskFits begun.task
    pub progress : IsOnWay served begun.task begun.progress

  abbrev pub AllHeard : List Served → List Begun → Type 0
  AllHeard served all = AllByRecursion (IsHeard served) all

  way_on : (served served' : List Served) → Signs served served' → (task : Task) (progress : Progress) → IsOnWay served task progress → IsOnWay served' task progress
  way_on served served' signs task Closed way = tt
  way_on served served' signs (Own client draw entry) (InEntry state) (past, sound, dry, heard) = (past, sound, dry, heard_on View served served' signs past heard)
  way_on served served' signs (Own client draw entry) (InNewest state) way = absurd way
  way_on served served' signs (Newest client draw handle nonce) (InEntry state) way = absurd way
  way_on served served' signs (Newest client draw handle nonce) (InNewest state) (from, past, sound, heard) = (from, past, sound, heard_on View served served' signs past heard)
  way_on served served' signs (Height client handle height) (InEntry state) (past, sound, dry, heard) = (past, sound, dry, heard_on View served served' signs past heard)
  way_on served served' signs (Height client handle height) (InNewest state) way = absurd way

  -- more was signed
  pub all_heard_on : (served served' : List Served) → Signs served served' → (all : List Begun) → AllHeard served all → AllHeard served' all
  all_heard_on served served' signs all heard =
      all_lift (IsHeard served) (IsHeard served') (λ begun is. record { fits = is.fits; progress = way_on served served' signs begun.task begun.progress is.progress }) all heard

  -- one that made no call yet
  pub fresh_heard : (served : List Served) (task : Task) (progress : Progress) → IsFresh (alone roster config) task progress → IsOnWay served task progress
  fresh_heard served (Own client draw entry) (InEntry state) fresh = ([], fresh.0 checks, tt, record { links = tt; gots = tt })
  fresh_heard served (Newest client draw handle nonce) (InNewest state) fresh = (alone roster config, [], fresh.0 checks, record { links = tt; gots = tt })
  fresh_heard served (Height client handle height) (InEntry state) fresh = ([], fresh.0 checks, tt, record { links = tt; gots = tt })
  fresh_heard served (Own client draw entry) Closed fresh = absurd fresh
  fresh_heard served (Own client draw entry) (InNewest state) fresh = absurd fresh
  fresh_heard served (Newest client draw handle nonce) Closed fresh = absurd fresh
  fresh_heard served (Newest client draw handle nonce) (InEntry state) fresh = absurd fresh
  fresh_heard served (Height client handle height) Closed fresh = absurd fresh
  fresh_heard served (Height client handle height) (InNewest state) fresh = absurd fresh

  module _ (before after : Held) (holds : OneState key left accepts checks roster config before) (marked : IsMarkedState before) where
    abbrev At : Held → Task → Progress → Type 0
    At state task progress = IsOnWay (served state) task progress

    -- calls that tell of no further view
    dry_by : (ask : Ask) (events past : List Event) (chain : ViewChain) → Ran lying_view (bank_view key left accepts) before.store before.link events after.store after.link
        → OwnCalls checks ask chain.configs (events ++ past) → AreDry past → AreDry (events ++ past)
    dry_by ask events past chain ran calls dry =
        let still = entry_still (newest_tail (config ∷ [])) checks ask chain.configs (events ++ past) calls in
        let went = ran_none (bank_view key left accepts) (newest_tail (config ∷ [])) before.store after.store before.link after.link events ran (all_front (IsStill (newest_tail (config ∷ []))) events past still) holds.store in
        all_join IsDry events past went.1 dry

    -- ---- steps

    step_entry : (ask : Ask) (old new : EntryState) (n : ℕ) → GoesFor lying_view (bank_view key left accepts) before after (Sound checks) is_entry_live old new n → AskFits ask → EntryHeard (served before) ask old
        → StaysSo before after × EntryHeard (served after) ask new
    step_entry ask old new n goes fits (past, sound, dry, heard) =
        let events = goes.goes.events in
        let sound_now = goes.goes.leads ask (alone roster config) past sound in
        let calls = own checks ask (alone roster config) new (events ++ past) sound_now in
        let dry_now = dry_by ask events past new.chain goes.goes.calls.ran calls dry in
        let by = entry_stays key left accepts checks roster config limits ids ask before after events past new.chain goes.goes.calls.ran
        (chain_stays checks ask (alone roster config) new (events ++ past) dry_now sound_now) fits calls marked heard in
        (record { marked = by.marked; signs = by.signs }, (events ++ past, sound_now, dry_now, by.heard))

    step_read : (ask : LatestAsk) (old new : LatestState) (n : ℕ) → GoesFor lying_view (bank_view key left accepts) before after (LatestSound checks) is_latest_live old new n → LatestHeard (served before) ask old
        → StaysSo before after × LatestHeard (served after) ask new
    step_read ask old new n goes (from, past, sound, heard) =
        let events = goes.goes.events in
        let sound_now = goes.goes.leads ask from past sound in
        let by = read_stays key left accepts checks roster config limits ids ask before after events past goes.goes.calls.ran (read_calls checks ask new.chain (events ++ past) sound_now.own) marked heard in
        (record { marked = by.marked; signs = by.signs }, (from, events ++ past, sound_now, by.heard))

    -- the steps of an operation
    pub steps_heard : (task : Task) (old new : Progress) (n : ℕ) → Steps lying_view (bank_view key left accepts) before after checks old new n → TaskFits task → At before task old → StaysSo before after × At after task new
    steps_heard task Closed Closed n steps fits way = (stays_not key left accepts checks roster config limits ids before after steps marked, tt)
    steps_heard (Own client draw entry) (InEntry old) (InEntry new) n steps fits way = step_entry (ask_for entry) old new n steps fits way
    steps_heard (Newest client draw handle nonce) (InEntry old) (InEntry new) n steps fits way = absurd way
    steps_heard (Height client handle height) (InEntry old) (InEntry new) n steps fits way = step_entry (ReadAt handle height) old new n steps tt way
    steps_heard (Own client draw entry) (InNewest old) (InNewest new) n steps fits way = absurd way
    steps_heard (Newest client draw handle nonce) (InNewest old) (InNewest new) n steps fits way = step_read (record { handle = handle; nonce = nonce }) old new n steps way
    steps_heard (Height client handle height) (InNewest old) (InNewest new) n steps fits way = absurd way
    steps_heard task Closed (InEntry new) n steps fits way = absurd steps
    steps_heard task Closed (InNewest new) n steps fits way = absurd steps
    steps_heard task (InEntry old) Closed n steps fits way = absurd steps
    steps_heard task (InEntry old) (InNewest new) n steps fits way = absurd steps
    steps_heard task (InNewest old) Closed n steps fits way = absurd steps
    steps_heard task (InNewest old) (InEntry new) n steps fits way = absurd steps

    -- ---- the end

    end_result : (ask : Ask) (state : EntryState) (events : List Event) (result : Result Standing Cause) → Ran lying_view (bank_view key left accepts) before.store before.link events after.store after.link
        → EndsEntry checks state events result → AskFits ask → EntryHeard (served before) ask state → StaysSo before after × IsResultSigned (served after) result
    end_result ask state events result ran ends fits (past, sound, dry, heard) =
        let end = ends ask (alone roster config) past sound in
        let dry_now = dry_by ask events past end.0 ran end.1.own dry in
        let same = grown_none checks (alone roster config) end.0 (events ++ past) dry_now end.1.grown in
        let by = entry_stays key left accepts checks roster config limits ids ask before after events past end.0 ran same fits end.1.own marked heard in (
          record { marked = by.marked; signs = by.signs },
          answered_signed checks roster config limits ids (served after) (alone roster config) (events ++ past) by.heard ask result
              (subst (λ (c : ViewChain). IsAnswered checks ask (alone roster config) c result (events ++ past)) same end.1.came),
        )

    end_entry : (ask : Ask) (state : EntryState) (answer : ServiceAnswer) → CameTo lying_view (bank_view key left accepts) before after (λ events. OfStanding (EndsEntry checks state events) answer) → AskFits ask
        → EntryHeard (served before) ask state → AnswersSo before after answer
    end_entry ask state answer came fits way = by answer came.ended
      where
        by : (answer : ServiceAnswer) → OfStanding (EndsEntry checks state came.events) answer → AnswersSo before after answer
        by (Stood standing) ends = let both = end_result ask state came.events (Ok standing) came.calls.ran ends fits way in record { stays = both.0; signed = both.1 }
        by (Refused cause) ends = let both = end_result ask state came.events (Err cause) came.calls.ran ends fits way in record { stays = both.0; signed = both.1 }
        by (Replied reply) ends = absurd ends
        by (Knew rows) ends = absurd ends

    end_reply : (ask : LatestAsk) (state : LatestState) (events : List Event) (result : Result LatestReply Cause) (answer : ServiceAnswer) → Ran lying_view (bank_view key left accepts) before.store before.link events after.store after.link
        → EndsLatest checks state events result → ((chain : ViewChain) (past : List Event) → LatestSays checks ask chain past result → OfReply (LatestSays checks ask chain past) answer) → LatestHeard (served before) ask state
        → AnswersSo before after answer
    end_reply ask state events result answer ran ends of (from, past, sound, heard) =
        let end = ends ask from past sound in
        let by = read_stays key left accepts checks roster config limits ids ask before after events past ran (read_calls checks ask end.0 (events ++ past) end.1.own) marked heard in
        record {
          stays = record { marked = by.marked; signs = by.signs };
          signed = reply_signed key left accepts checks roster config limits ids ask end.0 (events ++ past) after by.heard answer (of end.0 (events ++ past) end.1.says);
        }

    end_read : (ask : LatestAsk) (state : LatestState) (answer : ServiceAnswer) → CameTo lying_view (bank_view key left accepts) before after (λ events. OfReply (EndsLatest checks state events) answer)
        → LatestHeard (served before) ask state → AnswersSo before after answer
    end_read ask state answer came way = by answer came.ended
      where
        by : (answer : ServiceAnswer) → OfReply (EndsLatest checks state came.events) answer → AnswersSo before after answer
        by (Replied reply) ends = end_reply ask state came.events (Ok reply) (Replied reply) came.calls.ran ends (λ chain past says. says) way
        by (Refused cause) ends = end_reply ask state came.events (Err cause) (Refused cause) came.calls.ran ends (λ chain past says. says) way
        by (Stood standing) ends = absurd ends
        by (Knew rows) ends = absurd ends

    -- an operation was led to its answer
    pub ends_answer : (task : Task) (progress : Progress) (answer : ServiceAnswer) → CameTo lying_view (bank_view key left accepts) before after (λ events. Ends checks progress events answer) → TaskFits task
        → At before task progress → AnswersSo before after answer
    ends_answer task Closed answer came fits way = absurd came.ended
    ends_answer (Own client draw entry) (InEntry state) answer came fits way = end_entry (ask_for entry) state answer came fits way
    ends_answer (Newest client draw handle nonce) (InEntry state) answer came fits way = absurd way
    ends_answer (Height client handle height) (InEntry state) answer came fits way = end_entry (ReadAt handle height) state answer came tt way
    ends_answer (Own client draw entry) (InNewest state) answer came fits way = absurd way
    ends_answer (Newest client draw handle nonce) (InNewest state) answer came fits way = end_read (record { handle = handle; nonce = nonce }) state answer came way
    ends_answer (Height client handle height) (InNewest state) answer came fits way = absurd way

  -- ---- lists of operations

  pub heard_at : (served : List Served) (all : List Begun) (place : ℕ) (begun : Begun) → slice_get all place ≡ Some begun → AllHeard served all → IsHeard served begun
  heard_at served [] place begun stood all = absurd (cc stood)
  heard_at served (first ∷ rest) zero begun stood all = let same : first ≡ begun = cc stood in subst (IsHeard served) same all.0
  heard_at served (first ∷ rest) (suc place) begun stood all = heard_at served rest place begun stood all.1

  pub heard_set : (served : List Served) (all : List Begun) (place : ℕ) (begun : Begun) → IsHeard served begun → AllHeard served all → AllHeard served (slice_set all place begun)
  heard_set served [] place begun is all = tt
  heard_set served (first ∷ rest) zero begun is all = (is, all.1)
  heard_set served (first ∷ rest) (suc place) begun is all = (all.0, heard_set served rest place begun is all.1)
