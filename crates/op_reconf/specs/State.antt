-- What contracts see of a reconfiguration.
use Rattle.std.specs.Prelude.{ℕ, ◌+◌, ◌-◌, ◌*◌, ◌<◌, Bool, true, false, if◌then◌else◌, length, Option, Some, None, Result, Ok, Err}
use Rattle.port.specs.declared.refusal.Refusal.{Refusal}
use Rattle.port.specs.Cause.{Cause, cause_of}
use Rattle.port.specs.View.{ViewRow}
use Rattle.view_ledger.specs.Views.{ViewChain}
use Rattle.op_reconf.specs.declared.stage.Stage.{Stage}
use Rattle.op_reconf.specs.declared.stage.Stage.TheVariants as stages
use Rattle.op_reconf.specs.SettingUp.{SettingUp}
use Rattle.op_reconf.specs.First.{first_config}

-- it puts view 0; it sets up the members; it marks this view as complete; it has ended with this answer
pub data StageState : Type 0 where
  AtPut : StageState
  AtMembers : SettingUp → StageState
  AtMark : ViewRow → StageState
  AtEnd : Result ViewRow Cause → StageState

abbrev pub answer_of : Result ViewRow Refusal → Result ViewRow Cause
answer_of (Ok row) = Ok row
answer_of (Err refusal) = Err (cause_of refusal)

abbrev pub stage_of : Stage → StageState
stage_of stages.Begin = AtPut
stage_of (stages.Members set_up) = AtMembers set_up
stage_of (stages.Mark row) = AtMark row
stage_of (stages.Ended answer) = AtEnd (answer_of answer)

pub record State : Type 0 where
  pub chain : ViewChain
  pub stage : StageState

-- a member's turn is next where members are set up
abbrev pub IsReady : StageState → Type 0
IsReady (AtMembers set_up) = set_up.asked < length set_up.ask.members
IsReady stage = Unit {0}

-- it has not ended
abbrev pub is_live_at : StageState → Bool
is_live_at (AtEnd answer) = false
is_live_at stage = true

abbrev pub is_live : State → Bool
is_live state = is_live_at state.stage

abbrev pub answer_at : StageState → Option (Result ViewRow Cause)
answer_at (AtEnd answer) = Some answer
answer_at stage = None

-- how many calls are left, at most: one before the members' and one after, and two for each member
abbrev pub calls_at : ViewChain → StageState → ℕ
calls_at chain AtPut = 2 * length (first_config chain) + 2
calls_at chain (AtMembers set_up) = 2 * (length set_up.ask.members - set_up.asked) + (if set_up.begun then 0 else 1)
calls_at chain (AtMark row) = 1
calls_at chain (AtEnd answer) = 0

abbrev pub calls_left : State → ℕ
calls_left state = calls_at state.chain state.stage
