use Rattle.blob_store.specs.LyingStore.{lying_view}
use Rattle.endorser_cell.specs.CellBank.{bank_view}
use Rattle.script_world.proofs.Carrying.{named_checker, stepped}
use Rattle.script_world.proofs.Goes.{goes_same}
use Rattle.script_world.proofs.Kept.{kept_with}
use Rattle.script_world.proofs.Lent.{only_run}
use Rattle.script_world.proofs.world.World.step.Goals as goal

pub invariant_of-self : goal.invariant_of-self
invariant_of-self g c = kept_with c.self.inside.acts c.self.inside.operations c.step.new.self c.step.ensures.tasks c.self.invariant

pub returns-clause-rest : goal.returns-clause-rest
returns-clause-rest g c = only_run c.args.self.now c.self.inside.coordinator c.self.inside.acts c.self.inside.operations c.self.inside.labels c.self.inside.draws c.self.view_is c.step.new.coordinator c.step.new.self

pub returns-clause-stepped : goal.returns-clause-stepped
returns-clause-stepped g c =
    let inside = c.self.inside in
    stepped g.G.Signer.Signer.key_of g.G.Signer.Signer.left_of g.G.Checker.Checker.accepts g.K.RunName.accepts c.args.self.now inside.coordinator inside.acts inside.operations inside.labels inside.draws
    c.self.view_is c.step.new.coordinator c.step.new.self c.args.op.now c.args.n c.step.ensures.steps

pub returns-clause-goes : goal.returns-clause-goes
returns-clause-goes g c =
    let inside = c.self.inside in
    goes_same c.args.self.now inside.coordinator c.step.new.coordinator inside.acts inside.operations c.step.new.self inside.labels inside.labels inside.draws inside.draws c.self.view_is
    (named_checker lying_view (bank_view g.G.Signer.Signer.key_of g.G.Signer.Signer.left_of g.G.Checker.Checker.accepts) inside.coordinator c.step.new.coordinator (g.G.Checker.Checker.accepts inside.coordinator.checker) inside.operations c.step.new.self c.args.op.now c.args.n c.step.ensures.steps)
