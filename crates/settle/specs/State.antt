-- What contracts see of a settling.
use Rattle.std.specs.Prelude.{◌≡◌, ℕ, ◌+◌, ◌*◌, ◌^◌, ◌≤◌, Bool, true, false, List, [], ◌∷◌}
use Rattle.chain_block.specs.declared.meta_block.MetaBlock.{MetaBlock}
use Rattle.statement.specs.Receipt.{Receipt}
use Rattle.port.specs.Cause.{MemberCause}
use Rattle.op_parts.specs.RoundRefusal.{causes}
use Rattle.op_parts.specs.RoundState.{State as Round, is_live as is_asking, calls_each, calls_left as round_calls}
use Rattle.op_parts.specs.Walk.{Walk, Place, steps_left}
use Rattle.settle.specs.declared.stage.Stage.{Stage as StageInside}
use Rattle.settle.specs.declared.stage.Stage.TheVariants as stages

-- a round over the row at the top; a walk up the rows, with the reasons of the round at the row; a receipt with its bytes, which
-- are to be attached to the row at the top; the end
pub data Stage : Type 0 where
  AtRound : Round → Place → Stage
  AtWalk : Walk → List (ℕ × MemberCause) → Stage
  AtAttach : Receipt → List ℕ → Place → Stage
  AtEnd : Stage

abbrev pub stage_of : StageInside → Stage
stage_of (stages.Round round top) = AtRound round top
stage_of (stages.Walk walk reasons) = AtWalk walk (causes reasons.items)
stage_of (stages.Attach receipt bytes top) = AtAttach receipt bytes.bytes top
stage_of stages.Ended = AtEnd

-- the ledger, and what comes next
pub record State : Type 0 where
  pub handle : List ℕ
  pub stage : Stage

-- a walk that goes on has not ended, and it is above a row
abbrev pub IsReady : Stage → Type 0
IsReady (AtWalk walk causes) = (walk.live ≡ true) × (1 ≤ walk.place.height)
IsReady stage = Unit {0}

-- a settling under a view of so many members has not ended
abbrev pub is_live_at : ℕ → Stage → Bool
is_live_at members (AtRound round place) = is_asking members round
is_live_at members AtEnd = false
is_live_at members stage = true

abbrev pub is_live : ℕ → State → Bool
is_live members state = is_live_at members state.stage

-- how many calls the round after a walk makes, at most, and the attach after it
abbrev pub calls_above : ℕ → ℕ
calls_above members = members * calls_each (2 ^ 64) + 1

-- how many calls are left, at most, where there are so many in the round that goes on
abbrev pub calls_from : ℕ → List MetaBlock → ℕ → ℕ
calls_from members [] calls = calls + 65538 + calls_above members
calls_from members (block ∷ blocks) calls = calls + 1

-- how many calls are left, at most
abbrev pub calls_left_at : ℕ → Stage → ℕ
calls_left_at members (AtRound round place) = calls_from members place.blocks (round_calls members round)
calls_left_at members (AtWalk walk causes) = steps_left walk + calls_above members
calls_left_at members (AtAttach receipt bytes place) = 1
calls_left_at members AtEnd = 0

abbrev pub calls_left : ℕ → State → ℕ
calls_left members state = calls_left_at members state.stage
