use Rattle.std.proofs.Common.{◌≡◌, sym, subst, ap, ◌∙◌, Some}
use Rattle.port.specs.Call.{Finalize}
use Rattle.port.specs.Table.{State, cell}
use Rattle.endorser_core.specs.Endorser.{Endorser, me}
use Rattle.endorser_core.specs.Held.{state_of}
use Rattle.endorser_core.specs.Lacks.{MayLack}
use Rattle.endorser_core.proofs.Following.{on_err}
use Rattle.endorser_core.proofs.endorser.Endorser.finalize.Goals as goal

pub returns-clause-lacks : goal.returns-clause-lacks
returns-clause-lacks g c =
    let is : state_of (Some c.in-Some.held) ≡ c.args.self.now.state =
    sym (ap state_of c.in-Some.is) ∙ ap (λ (e : Endorser g.row.G-Signer.Denot g.row.G-Checker.Denot). e.state) c.self.view_is in
    on_err c.finalize.result _ _ c.finalize.ensures.lacks
    (λ again. subst (λ (state : State). MayLack (g.G.Signer.Signer.left_of c.args.self.now.signer) (cell (me g.G.Signer.Signer.key_of c.args.self.now) state (Finalize c.args.config.now c.args.number))) is
    (again (me g.G.Signer.Signer.key_of c.args.self.now) (g.G.Signer.Signer.left_of c.args.self.now.signer)))
