-- Open operations that began with one view, and learned of no other.
use Rattle.std.proofs.Common.{◌≡◌, inr, ℕ, List, [], ◌∷◌, ◌++◌, sym, subst}
use Rattle.statement.specs.declared.member.Member.{Member}
use Rattle.blob_store.specs.declared.lying_store.LyingStore.{LyingStore}
use Rattle.blob_store.specs.LyingStore.{lying_view}
use Rattle.chain_block.specs.declared.entry.Entry.{Entry}
use Rattle.chain_block.specs.declared.entry.Entry.TheVariants as entries
use Rattle.chain_block.specs.Entry.{bare}
use Rattle.port.specs.Service.{ServiceAnswer}
use Rattle.port.specs.Trace.{Event}
use Rattle.view_ledger.specs.Views.{ViewChain, newest_tail}
use Rattle.view_ledger.specs.Receipts.{Accepts}
use Rattle.endorser_cell.specs.CellBank.{CellBank, bank_view}
use Rattle.op_entry.specs.Ask.{Ask, ReadAt}
use Rattle.op_entry.specs.Laws.{OwnCalls}
use Rattle.op_entry.specs.Sound.{Sound}
use Rattle.op_entry.specs.State.{is_live as is_entry_live}
use Rattle.op_entry.specs.State as entry
use Rattle.op_latest.specs.LatestAsked.{LatestAsk, asking_of}
use Rattle.op_latest.specs.LatestSays.{LatestSays}
use Rattle.op_latest.specs.LatestSound.{LatestSound}
use Rattle.op_latest.specs.LatestState.{is_live as is_latest_live}
use Rattle.op_latest.specs.LatestState as latest
use Rattle.coordinator.specs.Calls.{OfReply, OfStanding}
use Rattle.coordinator.specs.State.{State}
use Rattle.coordinator.specs.Stepping.{Calls}
use Rattle.script_operations.specs.Ending.{Ends, EndsEntry, EndsLatest}
use Rattle.script_operations.specs.Operations.{Closed, InEntry, InNewest, IsFresh, Progress}
use Rattle.script_operations.specs.Stepping.{GoesFor, Steps}
use Rattle.script_operations.specs.Task.{Height, Newest, Own, Task, ask_for}
use Rattle.script_runs.proofs.NoFinals.{ran_none}
use Rattle.script_runs.proofs.OneState.{OneState, after_calls, alone, of_reply, of_standing, reply_more, standing_more}
use Rattle.script_runs.proofs.OwnStill.{entry_still, latest_still}
use Rattle.script_runs.proofs.Standing.{AsksFor, Means, SaysSo, at_good, latest_good, own_good}
use Rattle.script_runs.proofs.Still.{AreDry, AreStill, IsDry, IsStill, all_front, all_join, grown_none}
use Rattle.script_runs.proofs.Taking.{GoodFor}

-- the calls of an operation are its own
abbrev pub EntryCallsAreOwn : Type 0
EntryCallsAreOwn = (accepts : Accepts) (ask : Ask) (from : ViewChain) (state : entry.State) (past : List Event) → Sound accepts ask from state past → OwnCalls accepts ask state.chain.configs past

module _ (checks : Accepts) (from : ViewChain) where
  -- it came to this state by calls that told it of no further view
  abbrev pub EntryGoing : Ask → entry.State → Type 0
  EntryGoing ask state = (past : List Event) × Sound checks ask from state past × AreDry past

  abbrev pub LatestGoing : LatestAsk → latest.State → Type 0
  LatestGoing ask state = (past : List Event) × LatestSound checks ask from state past × AreDry past

  -- it was asked for its task
  abbrev pub EntryGoes : Task → entry.State → Type 0
  EntryGoes (Own client draw entry) state = (bare entry ≡ entry) × EntryGoing (ask_for entry) state
  EntryGoes (Newest client draw handle nonce) state = ⊥
  EntryGoes (Height client handle height) state = EntryGoing (ReadAt handle height) state

  abbrev pub LatestGoes : Task → latest.State → Type 0
  LatestGoes (Own client draw entry) state = ⊥
  LatestGoes (Newest client draw handle nonce) state = LatestGoing (record { handle = handle; nonce = nonce }) state
  LatestGoes (Height client handle height) state = ⊥

  abbrev pub IsGoing : Task → Progress → Type 0
  IsGoing task Closed = Unit {0}
  IsGoing task (InEntry state) = EntryGoes task state
  IsGoing task (InNewest state) = LatestGoes task state

for_entry : (entry : Entry) → bare entry ≡ entry → AsksFor (ask_for entry) entry
for_entry (entries.Genesis nonce payload) is = is
for_entry (entries.Later handle height nonce payload) is = is

-- an operation that begins with the chain
abbrev pub IsBare : Task → Type 0
IsBare (Own client draw entry) = bare entry ≡ entry
IsBare (Newest client draw handle nonce) = Unit {0}
IsBare (Height client handle height) = Unit {0}

pub begins_going : (checks : Accepts) (from : ViewChain) (task : Task) (progress : Progress) → IsBare task → IsFresh from task progress → IsGoing checks from task progress
begins_going checks from (Own client draw entry) Closed is fresh = absurd fresh
begins_going checks from (Own client draw entry) (InEntry state) is fresh = (is, ([], fresh.0 checks, tt))
begins_going checks from (Own client draw entry) (InNewest state) is fresh = absurd fresh
begins_going checks from (Newest client draw handle nonce) Closed is fresh = absurd fresh
begins_going checks from (Newest client draw handle nonce) (InEntry state) is fresh = absurd fresh
begins_going checks from (Newest client draw handle nonce) (InNewest state) is fresh = ([], fresh.0 checks, tt)
begins_going checks from (Height client handle height) Closed is fresh = absurd fresh
begins_going checks from (Height client handle height) (InEntry state) is fresh = ([], fresh.0 checks, tt)
begins_going checks from (Height client handle height) (InNewest state) is fresh = absurd fresh

module _ {S C : Type 0} (key : S → List ℕ) (left : S → ℕ) (accepts : C → Accepts) (checks : Accepts) (roster config : List Member) (own : EntryCallsAreOwn) (before after : State LyingStore (CellBank S C) C)
    (holds : OneState key left accepts checks roster config before) where
  -- calls of an operation were made over the coordinator's store and link, after those before
  module _ (events past : List Event) (calls : Calls lying_view (bank_view key left accepts) before events after) (still : AreStill (newest_tail (config ∷ [])) (events ++ past)) where
    newer_still : AreStill (newest_tail (config ∷ [])) events
    newer_still = all_front (IsStill (newest_tail (config ∷ []))) events past still

    stays : OneState key left accepts checks roster config after
    stays = after_calls key left accepts checks roster config before after events holds calls.ran newer_still calls.checker (λ dry. calls.chain)

    all_dry : AreDry past → AreDry (events ++ past)
    all_dry dry =
        let went = ran_none (bank_view key left accepts) (newest_tail (config ∷ [])) before.store after.store before.link after.link events calls.ran newer_still holds.store in
        all_join IsDry events past went.1 dry

  entry_steps : (ask : Ask) (old new : entry.State) (n : ℕ) → EntryGoing checks (alone roster config) ask old → GoesFor lying_view (bank_view key left accepts) before after (Sound checks) is_entry_live old new n
      → OneState key left accepts checks roster config after × EntryGoing checks (alone roster config) ask new
  entry_steps ask old new n (past, sound, dry) steps =
      let next = steps.goes.leads ask (alone roster config) past sound in
      let still = entry_still (newest_tail (config ∷ [])) checks ask new.chain.configs (steps.goes.events ++ past) (own checks ask (alone roster config) new (steps.goes.events ++ past) next) in
      (stays steps.goes.events past steps.goes.calls still, (steps.goes.events ++ past, next, all_dry steps.goes.events past steps.goes.calls still dry))

  latest_steps : (ask : LatestAsk) (old new : latest.State) (n : ℕ) → LatestGoing checks (alone roster config) ask old
      → GoesFor lying_view (bank_view key left accepts) before after (LatestSound checks) is_latest_live old new n
      → OneState key left accepts checks roster config after × LatestGoing checks (alone roster config) ask new
  latest_steps ask old new n (past, sound, dry) steps =
      let next = steps.goes.leads ask (alone roster config) past sound in
      let still = latest_still (newest_tail (config ∷ [])) checks (asking_of ask new.chain) (steps.goes.events ++ past) next.own in
      (stays steps.goes.events past steps.goes.calls still, (steps.goes.events ++ past, next, all_dry steps.goes.events past steps.goes.calls still dry))

  pub steps_going : (task : Task) (old new : Progress) (n : ℕ) → IsGoing checks (alone roster config) task old → Steps lying_view (bank_view key left accepts) before after checks old new n
      → OneState key left accepts checks roster config after × IsGoing checks (alone roster config) task new
  steps_going task Closed Closed n going steps = (subst (OneState key left accepts checks roster config) (sym steps) holds, tt)
  steps_going (Own client draw entry) (InEntry old) (InEntry new) n going steps = let both = entry_steps (ask_for entry) old new n going.1 steps in (both.0, (going.0, both.1))
  steps_going (Newest client draw handle nonce) (InEntry old) (InEntry new) n going steps = absurd going
  steps_going (Height client handle height) (InEntry old) (InEntry new) n going steps = entry_steps (ReadAt handle height) old new n going steps
  steps_going (Own client draw entry) (InNewest old) (InNewest new) n going steps = absurd going
  steps_going (Newest client draw handle nonce) (InNewest old) (InNewest new) n going steps = latest_steps (record { handle = handle; nonce = nonce }) old new n going steps
  steps_going (Height client handle height) (InNewest old) (InNewest new) n going steps = absurd going
  steps_going task Closed (InEntry new) n going steps = absurd steps
  steps_going task Closed (InNewest new) n going steps = absurd steps
  steps_going task (InEntry old) Closed n going steps = absurd steps
  steps_going task (InEntry old) (InNewest new) n going steps = absurd steps
  steps_going task (InNewest old) Closed n going steps = absurd steps
  steps_going task (InNewest old) (InEntry new) n going steps = absurd steps

  module _ (means : Means) (events : List Event) (calls : Calls lying_view (bank_view key left accepts) before events after) (answer : ServiceAnswer) where
    module _ (ask : Ask) (state : entry.State) (past : List Event) (sound : Sound checks ask (alone roster config) state past) (dry : AreDry past)
        (ends : OfStanding (EndsEntry checks state events) answer) where
      entry_stills : AreStill (newest_tail (config ∷ [])) (events ++ past)
      entry_stills =
          of_standing (EndsEntry checks state events)
          (λ result ended. let end = ended ask (alone roster config) past sound in entry_still (newest_tail (config ∷ [])) checks ask end.0.configs (events ++ past) end.1.own) answer ends

      entry_stays : OneState key left accepts checks roster config after
      entry_stays = stays events past calls entry_stills

      entry_says : OfStanding (SaysSo checks ask (alone roster config) (alone roster config) (events ++ past)) answer
      entry_says =
          standing_more (EndsEntry checks state events) (SaysSo checks ask (alone roster config) (alone roster config) (events ++ past))
          (λ result ended.
          let end = ended ask (alone roster config) past sound in
          let same = grown_none checks (alone roster config) end.0 (events ++ past) (all_dry events past calls entry_stills dry) end.1.grown in
          subst (λ (chain : ViewChain). SaysSo checks ask (alone roster config) chain (events ++ past) result) same (inr end.1.says))
          answer ends

    module _ (ask : LatestAsk) (state : latest.State) (past : List Event) (sound : LatestSound checks ask (alone roster config) state past) (dry : AreDry past)
        (ends : OfReply (EndsLatest checks state events) answer) where
      latest_stills : AreStill (newest_tail (config ∷ [])) (events ++ past)
      latest_stills =
          of_reply (EndsLatest checks state events)
          (λ result ended. let end = ended ask (alone roster config) past sound in latest_still (newest_tail (config ∷ [])) checks (asking_of ask end.0) (events ++ past) end.1.own) answer ends

      latest_says : OfReply (LatestSays checks ask (alone roster config) (events ++ past)) answer
      latest_says =
          reply_more (EndsLatest checks state events) (LatestSays checks ask (alone roster config) (events ++ past))
          (λ result ended.
          let end = ended ask (alone roster config) past sound in
          let same = grown_none checks (alone roster config) end.0 (events ++ past) (all_dry events past calls latest_stills dry) end.1.grown in
          subst (λ (chain : ViewChain). LatestSays checks ask chain (events ++ past) result) same end.1.says)
          answer ends

    -- the answer of an operation that was led to its end is good
    pub ends_good : (task : Task) (progress : Progress) → IsGoing checks (alone roster config) task progress → Ends checks progress events answer
        → OneState key left accepts checks roster config after × GoodFor checks (config ∷ []) task answer
    ends_good task Closed going ends = absurd ends
    ends_good (Own client draw entry) (InEntry state) (is, (past, sound, dry)) ends = (
      entry_stays (ask_for entry) state past sound dry ends,
      own_good means checks (alone roster config) (alone roster config) (events ++ past) (ask_for entry) entry answer (for_entry entry is) (entry_says (ask_for entry) state past sound dry ends),
    )
    ends_good (Newest client draw handle nonce) (InEntry state) going ends = absurd going
    ends_good (Height client handle height) (InEntry state) (past, sound, dry) ends = (
      entry_stays (ReadAt handle height) state past sound dry ends,
      at_good means checks (alone roster config) (alone roster config) (events ++ past) handle height answer (entry_says (ReadAt handle height) state past sound dry ends),
    )
    ends_good (Own client draw entry) (InNewest state) going ends = absurd going
    ends_good (Newest client draw handle nonce) (InNewest state) (past, sound, dry) ends =
        let ask : LatestAsk = record { handle = handle; nonce = nonce } in (
          stays events past calls (latest_stills ask state past sound dry ends),
          latest_good means checks (alone roster config) (alone roster config) (events ++ past) ask answer (latest_says ask state past sound dry ends),
        )
    ends_good (Height client handle height) (InNewest state) going ends = absurd going
