-- What contracts see of a latest read.
use Rattle.std.specs.Prelude.{◌≡◌, ℕ, ◌+◌, ◌-◌, ◌*◌, ◌^◌, ◌<◌, Bool, true, false, List, length, Result, Ok, Err}
use Rattle.statement.specs.Receipt.{Receipt}
use Rattle.port.specs.declared.refusal.Refusal.{Refusal}
use Rattle.port.specs.Cause.{Cause, cause_of}
use Rattle.port.specs.Reply.{LatestReply}
use Rattle.catch_up.specs.State.{State as CatchingUpState, is_live as is_catching_up, calls_left as catch_up_calls}
use Rattle.view_ledger.specs.Views.{ViewChain, newest_config}
use Rattle.op_parts.specs.RefreshState.{RefreshState, is_live as is_refreshing, calls_left as refresh_calls}
use Rattle.op_latest.specs.declared.latest_head.LatestHead.{LatestHead}
use Rattle.op_latest.specs.declared.latest_stage.LatestStage.{LatestStage}
use Rattle.op_latest.specs.declared.latest_stage.LatestStage.TheVariants as stages
use Rattle.op_latest.specs.LatestTurn.{Second}
use Rattle.op_latest.specs.LatestVote.{MemberVote}

-- it gets views; it asks the next member, after these votes; a member that told a lower count is caught up; a member is
-- asked once more; it gets the row below the signed head; it has ended with this answer
pub data Stage : Type 0 where
  Refreshing : RefreshState → Stage
  Asking : List MemberVote → Stage
  CatchingUp : Second → CatchingUpState → Stage
  AskingAgain : Second → Stage
  Getting : LatestHead → Receipt → Stage
  Ended : Result LatestReply Cause → Stage

-- the answer, with the cause of a refusal
abbrev pub outcome_of : Result LatestReply Refusal → Result LatestReply Cause
outcome_of (Ok reply) = Ok reply
outcome_of (Err refusal) = Err (cause_of refusal)

abbrev pub stage_of : LatestStage → Stage
stage_of (stages.Refresh refresh) = Refreshing refresh
stage_of (stages.First votes) = Asking votes.items
stage_of (stages.CatchUp second catch_up) = CatchingUp second catch_up
stage_of (stages.Again second) = AskingAgain second
stage_of (stages.Row head receipt) = Getting head receipt
stage_of (stages.Ended answer) = Ended (outcome_of answer)

pub record State : Type 0 where
  pub chain : ViewChain
  pub handle : List ℕ
  pub nonce : List ℕ
  pub stage : Stage

-- it has not ended
abbrev pub is_live_at : Stage → Bool
is_live_at (Ended answer) = false
is_live_at stage = true

abbrev pub is_live : State → Bool
is_live state = is_live_at state.stage

-- how many members the newest view has
abbrev pub members_of : ViewChain → ℕ
members_of chain = length (newest_config chain.configs)

-- the turn of a member of the newest view, each of which has a vote
pub record IsInTurn (chain : ViewChain) (second : Second) : Type 0 where
  pub below : second.place < members_of chain
  pub all : length second.votes ≡ members_of chain

-- there is a next call
abbrev pub IsReady : ViewChain → Stage → Type 0
IsReady chain (Refreshing refresh) = is_refreshing refresh ≡ true
IsReady chain (Asking votes) = length votes < members_of chain
IsReady chain (CatchingUp second catch_up) = IsInTurn chain second × (is_catching_up catch_up ≡ true)
IsReady chain (AskingAgain second) = IsInTurn chain second
IsReady chain (Getting head receipt) = 0 < head.count
IsReady chain (Ended answer) = Unit {0}

-- how many calls to one member the second asking makes, at most: two for each count of 64 bits, and a read
abbrev pub calls_each : ℕ
calls_each = 2 * 2 ^ 64 + 2

-- how many are left after the turn of the member at this place, and the row's
abbrev pub calls_after : ViewChain → ℕ → ℕ
calls_after chain place = (members_of chain - (place + 1)) * calls_each + 1

-- how many calls are left, at most
abbrev pub calls_at : ViewChain → Stage → ℕ
calls_at chain (Refreshing refresh) = refresh_calls refresh chain + 16 * calls_each
calls_at chain (Asking votes) = (members_of chain - length votes) + (members_of chain * calls_each + 1)
calls_at chain (CatchingUp second catch_up) = catch_up_calls catch_up + 1 + calls_after chain second.place
calls_at chain (AskingAgain second) = 1 + calls_after chain second.place
calls_at chain (Getting head receipt) = 1
calls_at chain (Ended answer) = 0

abbrev pub calls_left : State → ℕ
calls_left state = calls_at state.chain state.stage
