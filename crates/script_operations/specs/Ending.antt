-- What the answer of an operation says of the calls that led to it.
use Rattle.std.specs.Prelude.{List, ◌++◌, Result}
use Rattle.port.specs.Cause.{Cause}
use Rattle.port.specs.Reply.{Standing, LatestReply}
use Rattle.port.specs.Link.{LinkView}
use Rattle.port.specs.Service.{ServiceAnswer}
use Rattle.port.specs.Store.{StoreView}
use Rattle.port.specs.Trace.{Event}
use Rattle.view_ledger.specs.Receipts.{Accepts}
use Rattle.view_ledger.specs.Views.{ViewChain}
use Rattle.op_parts.specs.Refresh.{HasGrown}
use Rattle.op_entry.specs.Ask.{Ask}
use Rattle.op_entry.specs.Laws.{OwnCalls as EntryCalls}
use Rattle.op_entry.specs.Says.{Says}
use Rattle.op_entry.specs.Sound.{Sound, IsAnswered}
use Rattle.op_entry.specs.State.{State as EntryState}
use Rattle.op_latest.specs.LatestAsked.{LatestAsk, asking_of}
use Rattle.op_latest.specs.LatestOwn.{OwnCalls as LatestCalls}
use Rattle.op_latest.specs.LatestSays.{LatestSays}
use Rattle.op_latest.specs.LatestSound.{LatestSound, AtStage}
use Rattle.op_latest.specs.LatestState.{State as LatestState, Ended}
use Rattle.coordinator.specs.Calls.{OfStanding, OfReply}
use Rattle.coordinator.specs.State.{State}
use Rattle.coordinator.specs.Stepping.{Calls}
use Rattle.script_operations.specs.Operations.{Progress, Closed, InEntry, InNewest}

-- All calls of an operation are its own, the chain that it began with grew by the oldest of them, this is what they say of the answer, and
-- they came to it one after the other.
pub record EntryEnded (accepts : Accepts) (ask : Ask) (from chain : ViewChain) (events : List Event) (answer : Result Standing Cause) : Type 0 where
  pub own : EntryCalls accepts ask chain.configs events
  pub grown : HasGrown accepts from chain events
  pub says : Says accepts ask from chain events answer
  pub came : IsAnswered accepts ask from chain answer events

-- The same of a read of a newest row.
pub record LatestEnded (accepts : Accepts) (ask : LatestAsk) (from chain : ViewChain) (events : List Event) (answer : Result LatestReply Cause) : Type 0 where
  pub own : LatestCalls accepts (asking_of ask chain) events
  pub grown : HasGrown accepts from chain events
  pub says : LatestSays accepts ask chain events answer
  pub came : AtStage accepts ask from chain (Ended answer) events

-- Whatever calls have led to this state, with those on top they have led to this answer.
abbrev pub EndsEntry : Accepts → EntryState → List Event → Result Standing Cause → Type 0
EndsEntry accepts state events answer =
    (ask : Ask) (from : ViewChain) (past : List Event) → Sound accepts ask from state past → (chain : ViewChain) × EntryEnded accepts ask from chain (events ++ past) answer

abbrev pub EndsLatest : Accepts → LatestState → List Event → Result LatestReply Cause → Type 0
EndsLatest accepts state events answer =
    (ask : LatestAsk) (from : ViewChain) (past : List Event) → LatestSound accepts ask from state past → (chain : ViewChain) × LatestEnded accepts ask from chain (events ++ past) answer

-- The same of an open operation of either kind.
abbrev pub Ends : Accepts → Progress → List Event → ServiceAnswer → Type 0
Ends accepts Closed events answer = ⊥
Ends accepts (InEntry state) events answer = OfStanding (EndsEntry accepts state events) answer
Ends accepts (InNewest state) events answer = OfReply (EndsLatest accepts state events) answer

-- These calls were made over a coordinator's store and link, the newest first, and led to an answer of which this holds; all else of the
-- coordinator is as it was.
pub record CameTo {S L C : Type 0} (store_view : S → StoreView) (link_view : L → LinkView) (before after : State S L C) (ends : List Event → Type 0) : Type 0 where
  pub events : List Event
  pub calls : Calls store_view link_view before events after
  pub ended : ends events
