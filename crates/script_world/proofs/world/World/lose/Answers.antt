use Rattle.std.proofs.Common.{refl, subst, ap, ◌∙◌}
use Rattle.script_world.proofs.Goes.{goes_same}
use Rattle.endorser_cell.specs.Asking.{LosesMore}
use Rattle.endorser_cell.specs.CellBank.{CellBank}
use Rattle.script_world.proofs.Lent.{only_link, was_link}
use Rattle.script_world.proofs.world.World.lose.Goals as goal

pub returns-clause-rest : goal.returns-clause-rest
returns-clause-rest g c = only_link c.args.self.now c.self.inside.coordinator c.self.inside.acts c.self.inside.operations c.self.inside.labels c.self.inside.draws c.self.view_is c.lose.new.self

pub returns-clause-goes : goal.returns-clause-goes
returns-clause-goes g c =
    let inside = c.self.inside in
    goes_same c.args.self.now inside.coordinator (record inside.coordinator { link = c.lose.new.self }) inside.acts inside.operations inside.operations inside.labels inside.labels inside.draws inside.draws c.self.view_is refl

pub returns-clause-cells : goal.returns-clause-cells
returns-clause-cells g c =
    subst (λ (bank : CellBank g.row.G-Signer.Denot g.row.G-Checker.Denot). LosesMore bank.cells c.lose.new.self.cells c.args.id c.args.which c.args.n)
    (was_link c.args.self.now c.self.inside.coordinator c.self.inside.acts c.self.inside.operations c.self.inside.labels c.self.inside.draws c.self.view_is c.link_mut.result.now c.link_mut.ensures.value) c.lose.ensures.cells

pub returns-clause-log : goal.returns-clause-log
returns-clause-log g c =
    c.lose.ensures.log ∙ ap (λ (bank : CellBank g.row.G-Signer.Denot g.row.G-Checker.Denot). bank.log) (was_link c.args.self.now c.self.inside.coordinator c.self.inside.acts c.self.inside.operations c.self.inside.labels c.self.inside.draws c.self.view_is c.link_mut.result.now c.link_mut.ensures.value)
