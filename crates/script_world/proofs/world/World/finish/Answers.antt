use Rattle.script_world.proofs.Carrying.{finished, names_on}
use Rattle.script_world.proofs.Goes.{goes}
use Rattle.script_world.proofs.Kept.{kept_on, kept_with}
use Rattle.script_world.proofs.Lent.{draws_are, ledgers_are}
use Rattle.script_world.proofs.world.World.finish.Goals as goal

pub finish-requires : goal.finish-requires
finish-requires g c = c.self.invariant.drawn

pub invariant_of-self : goal.invariant_of-self
invariant_of-self g c =
    kept_with c.finish.new.acts c.self.inside.operations c.finish.new.self c.finish.ensures.tasks
    (kept_on c.operations_keep_draws.ensures.stays c.self.inside.acts c.finish.new.acts c.self.inside.operations c.finish.ensures.stays c.self.invariant)

pub returns-clause-finished : goal.returns-clause-finished
returns-clause-finished g c =
    let inside = c.self.inside in
    finished g.G.Signer.Signer.key_of g.G.Signer.Signer.left_of g.G.Checker.Checker.accepts g.K.RunName.accepts c.args.self.now inside.coordinator inside.acts inside.operations inside.labels inside.draws
    c.self.view_is c.finish.new.coordinator c.finish.new.acts c.finish.new.self c.args.op.now c.finish.result c.finish.ensures.finished

pub returns-clause-goes : goal.returns-clause-goes
returns-clause-goes g c =
    let inside = c.self.inside in
    goes c.args.self.now inside.coordinator c.finish.new.coordinator inside.acts c.finish.new.acts inside.operations c.finish.new.self inside.labels inside.labels inside.draws inside.draws c.self.view_is c.finish.ensures.checker c.finish.ensures.stays

pub returns-clause-names : goal.returns-clause-names
returns-clause-names g c = names_on c.args.self.now c.self.inside.coordinator c.self.inside.acts c.self.inside.operations c.self.inside.labels c.self.inside.draws c.self.view_is c.finish.new.acts c.finish.ensures.stays

pub returns-clause-ledgers : goal.returns-clause-ledgers
returns-clause-ledgers g c = ledgers_are c.args.self.now c.self.inside.coordinator c.self.inside.acts c.self.inside.operations c.self.inside.labels c.self.inside.draws c.self.view_is

pub returns-clause-draws : goal.returns-clause-draws
returns-clause-draws g c = draws_are c.args.self.now c.self.inside.coordinator c.self.inside.acts c.self.inside.operations c.self.inside.labels c.self.inside.draws c.self.view_is
