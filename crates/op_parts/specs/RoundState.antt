-- What contracts see of a round.
use Rattle.std.specs.Prelude.{◌≡◌, ℕ, ◌+◌, ◌-◌, ◌*◌, ◌&&◌, nat_lt, Bool, true, false, List}
use Rattle.chain_block.specs.declared.meta_block.MetaBlock.{MetaBlock}
use Rattle.statement.specs.Mark.{Content}
use Rattle.port.specs.Cause.{MemberCause}
use Rattle.catch_up.specs.State.{is_live as is_catching_up, calls_left as catch_up_calls}
use Rattle.op_parts.specs.declared.round_stage.Stage.{Stage}
use Rattle.op_parts.specs.declared.round_stage.Stage.TheVariants.{First, CatchUp, Again, Ended}

-- the row, how many members were asked, their marks and reasons by rising ids, and what comes next
pub record State : Type 0 where
  pub handle : List ℕ
  pub block : MetaBlock
  pub asked : ℕ
  pub marks : List Content
  pub reasons : List (ℕ × MemberCause)
  pub stage : Stage

-- a catch-up that goes on has not ended
abbrev pub IsReady : Stage → Type 0
IsReady (CatchUp catch_up) = is_catching_up catch_up ≡ true
IsReady stage = Unit {0}

abbrev pub is_live_at : Stage → Bool
is_live_at Ended = false
is_live_at stage = true

-- a round over so many members has not ended
abbrev pub is_live : ℕ → State → Bool
is_live members state = is_live_at state.stage && nat_lt state.asked members

-- how many calls to one member there are, at most: two appends of the row, and two calls for each height below it
abbrev pub calls_each : ℕ → ℕ
calls_each height = 2 * height + 2

-- how many calls to the member whose turn it is are left, at most
abbrev pub calls_at : ℕ → Stage → ℕ
calls_at height First = calls_each height
calls_at height (CatchUp catch_up) = catch_up_calls catch_up + 1
calls_at height Again = 1
calls_at height Ended = 0

-- how many calls are left, at most, where there are so many to the member whose turn it is
abbrev pub calls_from : ℕ → State → ℕ → ℕ
calls_from members state calls = calls + (members - (state.asked + 1)) * calls_each state.block.height

abbrev pub calls_left : ℕ → State → ℕ
calls_left members state = calls_from members state (calls_at state.block.height state.stage)
