use Rattle.script_world.proofs.Carrying.{keeps_on, retried}
use Rattle.script_world.proofs.Goes.{goes}
use Rattle.script_world.proofs.Kept.{kept_on}
use Rattle.script_world.proofs.Lent.{draws_are, ledgers_are}
use Rattle.script_world.proofs.world.World.retry.Goals as goal

pub retry-requires : goal.retry-requires
retry-requires g c = c.self.invariant.drawn

pub invariant_of-self : goal.invariant_of-self
invariant_of-self g c =
    kept_on c.operations_keep_draws.ensures.stays c.self.inside.acts c.retry.new.acts c.self.inside.operations c.retry.ensures.stays c.self.invariant

pub returns-clause-retried : goal.returns-clause-retried
returns-clause-retried g c =
    let inside = c.self.inside in
    retried g.G.Signer.Signer.key_of g.G.Signer.Signer.left_of g.G.Checker.Checker.accepts g.K.RunName.accepts c.args.self.now inside.coordinator inside.acts inside.operations inside.labels inside.draws
    c.self.view_is c.retry.new.coordinator c.retry.new.acts c.args.op.now c.retry.result c.retry.ensures.retried

pub returns-clause-goes : goal.returns-clause-goes
returns-clause-goes g c =
    let inside = c.self.inside in
    goes c.args.self.now inside.coordinator c.retry.new.coordinator inside.acts c.retry.new.acts inside.operations inside.operations inside.labels inside.labels inside.draws inside.draws c.self.view_is c.retry.ensures.checker c.retry.ensures.stays

pub returns-clause-keeps : goal.returns-clause-keeps
returns-clause-keeps g c =
    let inside = c.self.inside in
    keeps_on c.args.self.now inside.coordinator inside.acts inside.operations inside.labels inside.draws c.self.view_is c.retry.new.coordinator c.retry.new.acts inside.labels inside.draws c.retry.ensures.stays

pub returns-clause-ledgers : goal.returns-clause-ledgers
returns-clause-ledgers g c = ledgers_are c.args.self.now c.self.inside.coordinator c.self.inside.acts c.self.inside.operations c.self.inside.labels c.self.inside.draws c.self.view_is

pub returns-clause-draws : goal.returns-clause-draws
returns-clause-draws g c = draws_are c.args.self.now c.self.inside.coordinator c.self.inside.acts c.self.inside.operations c.self.inside.labels c.self.inside.draws c.self.view_is
