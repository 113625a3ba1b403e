use Rattle.std.proofs.Common.{sym, subst}
use Rattle.op_latest.specs.LatestState.{State, stage_of}
use Rattle.op_latest.specs.LatestSound.{LatestSound}
use Rattle.op_latest.proofs.LatestGrown.{has_grown}
use Rattle.op_latest.proofs.latest_op.LatestOp.into_parts.Goals as goal

pub returns-clause-grown : goal.returns-clause-grown
returns-clause-grown c accepts ask from past sound =
    let sound_inside = subst (λ (state : State). LatestSound accepts ask from state past) (sym c.self.view_is) sound in
    has_grown c.refreshes_grow.ensures accepts ask from c.self.inside.chain (stage_of c.self.inside.stage) past sound_inside.at
