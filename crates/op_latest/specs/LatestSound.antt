-- Which calls a latest read has made, and what they made of it.
use Rattle.std.specs.Prelude.{◌≡◌, ◌⊎◌, ℕ, ◌+◌, ◌<◌, List, [], ◌∷◌, ◌++◌, length, Result, Err}
use Rattle.statement.specs.declared.member.Member.{Member}
use Rattle.statement.specs.Receipt.{Receipt}
use Rattle.port.specs.declared.key.Key.TheVariants as keys
use Rattle.port.specs.declared.store_answers.Got.{Got}
use Rattle.port.specs.Cause.{Cause, NoMemory}
use Rattle.port.specs.Reply.{LatestReply}
use Rattle.port.specs.Store.{Get, WasGot}
use Rattle.port.specs.Trace.{Event, AtStore}
use Rattle.catch_up.specs.Sound.{Sound as SoundCatchUp}
use Rattle.catch_up.specs.State.{State as CatchingUpState}
use Rattle.view_ledger.specs.Views.{ViewChain}
use Rattle.view_ledger.specs.Receipts.{Accepts}
use Rattle.op_parts.specs.RefreshSays.{IsRefusedAtView, IsRefusedAtFinals}
use Rattle.op_parts.specs.RefreshSound.{Sound as SoundRefresh}
use Rattle.op_parts.specs.RefreshState.{RefreshState, AtView, AtFinals, AtEnd}
use Rattle.op_latest.specs.declared.latest_head.LatestHead.{LatestHead}
use Rattle.op_latest.specs.LatestAsked.{LatestAsk, Asking, asking_of, target_of, AreAsked, IsOtherMember, HasTold, AreBoth, AreDone}
use Rattle.op_latest.specs.LatestOwn.{OwnCalls}
use Rattle.op_latest.specs.LatestRow.{TakesRow}
use Rattle.op_latest.specs.LatestSays.{IsAfter, IsReceipted, LatestSays}
use Rattle.op_latest.specs.LatestState.{Stage, Refreshing, Asking as AskingFirst, CatchingUp, AskingAgain, Getting, Ended, State}
use Rattle.op_latest.specs.LatestSteps.{receipt_of, concluded}
use Rattle.op_latest.specs.LatestTurn.{Second}
use Rattle.op_latest.specs.LatestVote.{MemberVote}

-- The second asking has come to the turn of a member that told another head, with this count; these are the calls to it.
pub record IsInSecond (accepts : Accepts) (ask : Asking) (second : Second) (member : Member) (count : ℕ) (turn calls : List Event) : Type 0 where
  pub before : List Event
  pub split : calls ≡ turn ++ before
  pub both : AreBoth accepts ask second.head second.place second.votes before
  pub other : IsOtherMember ask second.head second.votes second.place member count

-- after the refresh: which calls have led to a stage that isn't the end
abbrev pub HasCome : Accepts → Asking → Stage → List Event → Type 0
HasCome accepts ask (AskingFirst votes) calls = AreAsked accepts ask votes calls
HasCome accepts ask (CatchingUp second catch_up) calls =
    (member : Member) × (count : ℕ) × (turn : List Event) × IsInSecond accepts ask second member count turn calls
    × (count < second.head.count) × SoundCatchUp (target_of ask second.head member.id) count catch_up turn
HasCome accepts ask (AskingAgain second) calls =
    (member : Member) × (count : ℕ) × (turn : List Event) × IsInSecond accepts ask second member count turn calls
    × HasTold ask second.head member.id count turn
HasCome accepts ask (Getting head receipt) calls =
    (votes : List MemberVote) × AreDone accepts ask head votes calls × (receipt ≡ receipt_of ask.claim head votes) × IsReceipted accepts ask calls head receipt
HasCome accepts ask stage calls = ⊥

-- the same, from the refresh of the chain `from` on
abbrev pub AtLive : Accepts → LatestAsk → ViewChain → ViewChain → Stage → List Event → Type 0
AtLive accepts ask from chain (Refreshing refresh) past = SoundRefresh accepts from refresh chain past
AtLive accepts ask from chain stage past =
    (calls : List Event) × IsAfter accepts from chain past calls × HasCome accepts (asking_of ask chain) stage calls

-- this call refused a refresh that had come so far
abbrev pub RefusesRefresh : Accepts → RefreshState → ViewChain → Event → Cause → Type 0
RefusesRefresh accepts AtView chain event cause = IsRefusedAtView (length chain.configs) event cause
RefusesRefresh accepts (AtFinals body block config) chain event cause = IsRefusedAtFinals accepts chain body block config event cause
RefusesRefresh accepts AtEnd chain event cause = ⊥

-- The refresh of the chain `from` was refused by the newest call.
pub record EndedInRefresh (accepts : Accepts) (from chain : ViewChain) (past : List Event) (event : Event) (answer : Result LatestReply Cause) : Type 0 where
  pub refresh : RefreshState
  pub come : SoundRefresh accepts from refresh chain past
  pub cause : Cause
  pub refuses : RefusesRefresh accepts refresh chain event cause
  pub is : answer ≡ Err cause

-- The newest call was one of a catch-up.
pub record EndedInCatchUp (accepts : Accepts) (ask : LatestAsk) (from chain : ViewChain) (past : List Event) : Type 0 where
  pub second : Second
  pub catch_up : CatchingUpState
  pub come : AtLive accepts ask from chain (CatchingUp second catch_up) past

-- After these calls nobody is to be asked any more, and there is no row to be got or no quorum.
pub record EndedByVotes (accepts : Accepts) (ask : LatestAsk) (from chain : ViewChain) (past : List Event) (answer : Result LatestReply Cause) : Type 0 where
  pub head : LatestHead
  pub votes : List MemberVote
  pub calls : List Event
  pub after : IsAfter accepts from chain past calls
  pub done : AreDone accepts (asking_of ask chain) head votes calls
  pub is : Ended answer ≡ concluded (asking_of ask chain).claim chain head votes

-- The newest call got the row below the head.
pub record EndedByRow (accepts : Accepts) (ask : LatestAsk) (from chain : ViewChain) (past : List Event) (event : Event) (answer : Result LatestReply Cause) : Type 0 where
  pub head : LatestHead
  pub receipt : Receipt
  pub come : AtLive accepts ask from chain (Getting head receipt) past
  pub height : ℕ
  pub below : head.count ≡ height + 1
  pub got : Got
  pub call : event ≡ AtStore (Get (keys.Row ask.handle height)) (WasGot got)
  pub takes : TakesRow ask.handle head receipt got answer

-- how a read ended by the newest call: so, or memory was wanted
abbrev pub HasEnded : Accepts → LatestAsk → ViewChain → ViewChain → List Event → Event → Result LatestReply Cause → Type 0
HasEnded accepts ask from chain past event answer =
    (answer ≡ Err NoMemory)
    ⊎ (EndedInRefresh accepts from chain past event answer
    ⊎ (EndedInCatchUp accepts ask from chain past
    ⊎ (EndedByVotes accepts ask from chain (event ∷ past) answer ⊎ EndedByRow accepts ask from chain past event answer)))

-- By these calls, the newest first, and no other, a read has come to this stage and this chain. At the end the newest call
-- was made at a stage before; this is what the answer says, and how the read ended.
abbrev pub AtStage : Accepts → LatestAsk → ViewChain → ViewChain → Stage → List Event → Type 0
AtStage accepts ask from chain (Ended answer) [] = ⊥
AtStage accepts ask from chain (Ended answer) (event ∷ past) =
    ((stage : Stage) × AtLive accepts ask from chain stage past) × LatestSays accepts ask chain (event ∷ past) answer
    × HasEnded accepts ask from chain past event answer
AtStage accepts ask from chain stage past = AtLive accepts ask from chain stage past

pub record LatestSound (accepts : Accepts) (ask : LatestAsk) (from : ViewChain) (state : State) (past : List Event) : Type 0 where
  pub handle : state.handle ≡ ask.handle
  pub nonce : state.nonce ≡ ask.nonce
  pub own : OwnCalls accepts (asking_of ask state.chain) past
  pub at : AtStage accepts ask from state.chain state.stage past

-- Whatever calls it has made, it has then made this one too.
abbrev pub Leads : Accepts → State → Event → State → Type 0
Leads accepts old event new =
    (ask : LatestAsk) (from : ViewChain) (past : List Event) → LatestSound accepts ask from old past → LatestSound accepts ask from new (event ∷ past)
