-- What contracts see of a refresh.
use Rattle.std.specs.Prelude.{ℕ, ◌-◌, ◌*◌, ◌^◌, Bool, true, false, List, length}
use Rattle.statement.specs.declared.member.Member.{Member}
use Rattle.statement.specs.declared.view_block.ViewBlock.{ViewBlock}
use Rattle.view_ledger.specs.Views.{ViewChain}
use Rattle.op_parts.specs.declared.refresh_stage.RefreshStage.{RefreshStage}
use Rattle.op_parts.specs.declared.refresh_stage.RefreshStage.TheVariants as stages

-- it gets the next view; it gets what ended the view below one, of these bytes, with this block and config; it has ended
pub data RefreshState : Type 0 where
  AtView : RefreshState
  AtFinals : List ℕ → ViewBlock → List Member → RefreshState
  AtEnd : RefreshState

abbrev pub state_of : RefreshStage → RefreshState
state_of stages.View = AtView
state_of (stages.Finals body block config) = AtFinals body.bytes block config
state_of stages.Ended = AtEnd

-- it has not ended
abbrev pub is_live : RefreshState → Bool
is_live AtEnd = false
is_live state = true

-- how many calls are left, at most: two for each number that a view may still have
abbrev pub calls_left : RefreshState → ViewChain → ℕ
calls_left AtView chain = 2 * (2 ^ 64 - length chain.configs)
calls_left (AtFinals body block config) chain = 2 * (2 ^ 64 - length chain.configs) - 1
calls_left AtEnd chain = 0
