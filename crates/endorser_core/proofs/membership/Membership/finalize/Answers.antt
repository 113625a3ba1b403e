use Rattle.std.proofs.Common.{sym, subst}
use Rattle.port.specs.Call.{Finalize}
use Rattle.port.specs.Table.{cell}
use Rattle.endorser_core.specs.Held.{state_at, view_of}
use Rattle.endorser_core.specs.Lacks.{MayLack}
use Rattle.endorser_core.specs.declared.membership.Stage.{Stage}
use Rattle.endorser_core.proofs.Following.{on_err}
use Rattle.endorser_core.proofs.membership.Membership.finalize.Goals as goal

pub returns-in-Finalized-clause-lacks : goal.returns-in-Finalized-clause-lacks
returns-in-Finalized-clause-lacks c =
    on_err c.finalize_again.result _ _ c.finalize_again.ensures.lacks
    (λ again me left. subst (λ (stage : Stage). MayLack left (cell me (state_at stage (view_of c.args.self.now)) (Finalize c.args.config.now c.args.number))) (sym c.in-Finalized.is) (again left))
