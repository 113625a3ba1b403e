use Rattle.std.proofs.Common.{subst}
use Rattle.endorser_cell.specs.CellBank.{AreServed, CellBank}
use Rattle.roster_bank.specs.Roster.{IsRoster}
use Rattle.script_world.proofs.Lent.{was_link}
use Rattle.script_world.proofs.world.World.calls_are_kept.Goals as goal

pub returns-clause-served : goal.returns-clause-served
returns-clause-served g c =
    subst (λ (bank : CellBank g.row.G-Signer.Denot g.row.G-Checker.Denot). AreServed bank)
    (was_link c.args.self.now c.self.inside.coordinator c.self.inside.acts c.self.inside.operations c.self.inside.labels c.self.inside.draws c.self.view_is c.link.result.now c.link.ensures) c.log.ensures.served

pub returns-clause-roster : goal.returns-clause-roster
returns-clause-roster g c =
    subst (λ (bank : CellBank g.row.G-Signer.Denot g.row.G-Checker.Denot). IsRoster g.G.Signer.Signer.key_of g.G.Checker.Checker.accepts g.K.RunName.members g.K.RunName.accepts bank)
    (was_link c.args.self.now c.self.inside.coordinator c.self.inside.acts c.self.inside.operations c.self.inside.labels c.self.inside.draws c.self.view_is c.link.result.now c.link.ensures) c.log.ensures.roster
