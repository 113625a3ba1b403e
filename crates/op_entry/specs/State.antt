-- What contracts see of an operation.
use Rattle.std.specs.Prelude.{◌≡◌, ℕ, ◌+◌, ◌^◌, ◌<◌, Bool, true, false, List, length, Option, Some, None, Result, Ok, Err}
use Rattle.chain_block.specs.declared.entry.Entry.{Entry}
use Rattle.chain_block.specs.Entry.{bare}
use Rattle.statement.specs.declared.member.Member.{Member}
use Rattle.port.specs.declared.refusal.Refusal.{Refusal}
use Rattle.port.specs.Cause.{Cause, cause_of}
use Rattle.port.specs.Reply.{Standing}
use Rattle.port.specs.Row.{Content}
use Rattle.port.specs.RowForm.{row_bytes}
use Rattle.view_ledger.specs.Views.{ViewChain, newest_config}
use Rattle.op_parts.specs.RefreshState.{RefreshState, is_live as is_refreshing, calls_left as refresh_calls}
use Rattle.settle.specs.State.{State as Settle, is_live as is_settling, calls_left as settle_calls}
use Rattle.op_entry.specs.declared.found.Found.{Found}
use Rattle.op_entry.specs.declared.stage.Stage.{Stage as StageOfCode}
use Rattle.op_entry.specs.declared.stage.Stage.TheVariants as stages
use Rattle.op_entry.specs.Ask.{Ask, ask_of, IsLater, IsAllowed}
use Rattle.op_entry.specs.OwnRow.{IsWhole}

-- It refreshes the chain; it gets the row below this entry; it puts this row; it gets the row that stands in its place; it
-- gets the row of a ledger at a height; it settles this row; it has ended with this answer.
pub data Stage : Type 0 where
  Refreshing : Ask → RefreshState → Stage
  GettingBelow : Entry → Stage
  Putting : Content → Stage
  GettingTaken : Content → Stage
  GettingAt : List ℕ → ℕ → Stage
  Settling : Found → Settle → Stage
  Ended : Result Standing Cause → Stage

-- an answer, with what contracts see of a refusal
abbrev pub answer_of : Result Standing Refusal → Result Standing Cause
answer_of (Ok standing) = Ok standing
answer_of (Err refusal) = Err (cause_of refusal)

abbrev pub stage_of : StageOfCode → Stage
stage_of (stages.Refresh wanted refresh) = Refreshing (ask_of wanted) refresh
stage_of (stages.GetBelow entry) = GettingBelow (bare entry)
stage_of (stages.Put row body) = Putting row
stage_of (stages.GetTaken row) = GettingTaken row
stage_of (stages.GetAt handle height) = GettingAt handle height
stage_of (stages.Settle found settle) = Settling found settle
stage_of (stages.Ended answer) = Ended (answer_of answer)

-- How many members the newest of these views has.
abbrev pub members_in : List (List Member) → ℕ
members_in configs = length (newest_config configs)

-- what is ready for the call that is to come, under a chain of these views
abbrev pub IsReady : List (List Member) → StageOfCode → Type 0
IsReady configs (stages.Refresh wanted refresh) = IsAllowed wanted × (is_refreshing refresh ≡ true)
IsReady configs (stages.GetBelow entry) = IsLater entry
IsReady configs (stages.Put row body) = IsWhole row × (body.bytes ≡ row_bytes row)
IsReady configs (stages.GetTaken row) = IsWhole row
IsReady configs (stages.GetAt handle height) = height < 2 ^ 32
IsReady configs (stages.Settle found settle) = is_settling (members_in configs) settle ≡ true
IsReady configs (stages.Ended answer) = Unit {0}

-- the chain of views, and what comes next
pub record State : Type 0 where
  pub chain : ViewChain
  pub stage : Stage

-- it has not ended
abbrev pub is_live_at : Stage → Bool
is_live_at (Ended answer) = false
is_live_at stage = true

abbrev pub is_live : State → Bool
is_live state = is_live_at state.stage

-- the answer, where it has ended
abbrev pub answer_at : Stage → Option (Result Standing Cause)
answer_at (Ended answer) = Some answer
answer_at stage = None

abbrev pub answer : State → Option (Result Standing Cause)
answer state = answer_at state.stage

-- how many calls a settling makes, at most
abbrev pub most_to_settle : ℕ
most_to_settle = 2 ^ 70

-- how many calls are left, at most: those of the refresh, the row below, the put, the own row, and those of the settling
abbrev pub calls_at : ViewChain → Stage → ℕ
calls_at chain (Refreshing ask refresh) = refresh_calls refresh chain + (most_to_settle + 3)
calls_at chain (GettingBelow entry) = most_to_settle + 3
calls_at chain (Putting row) = most_to_settle + 2
calls_at chain (GettingTaken row) = most_to_settle + 1
calls_at chain (GettingAt handle height) = most_to_settle + 1
calls_at chain (Settling found settle) = settle_calls (members_in chain.configs) settle
calls_at chain (Ended answer) = 0

abbrev pub calls_left : State → ℕ
calls_left state = calls_at state.chain state.stage
