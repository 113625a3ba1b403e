use Rattle.script_world.proofs.Carrying.{given, names_on}
use Rattle.script_world.proofs.Goes.{goes}
use Rattle.script_world.proofs.Kept.{kept_on, kept_with}
use Rattle.script_world.proofs.Lent.{draws_are, ledgers_are}
use Rattle.script_world.proofs.world.World.give.Goals as goal

pub give-requires : goal.give-requires
give-requires g c = c.self.invariant.drawn

pub invariant_of-self : goal.invariant_of-self
invariant_of-self g c =
    kept_with c.give.new.acts c.self.inside.operations c.give.new.self c.give.ensures.tasks
    (kept_on c.operations_keep_draws.ensures.stays c.self.inside.acts c.give.new.acts c.self.inside.operations c.give.ensures.stays c.self.invariant)

pub returns-clause-given : goal.returns-clause-given
returns-clause-given g c =
    let inside = c.self.inside in
    given g.G.Signer.Signer.key_of g.G.Signer.Signer.left_of g.G.Checker.Checker.accepts g.K.RunName.accepts c.args.self.now inside.coordinator inside.acts inside.operations inside.labels inside.draws
    c.self.view_is c.give.new.coordinator c.give.new.acts c.give.new.self c.args.op.now c.args.reply c.give.result c.give.ensures.given

pub returns-clause-goes : goal.returns-clause-goes
returns-clause-goes g c =
    let inside = c.self.inside in
    goes c.args.self.now inside.coordinator c.give.new.coordinator inside.acts c.give.new.acts inside.operations c.give.new.self inside.labels inside.labels inside.draws inside.draws c.self.view_is c.give.ensures.checker c.give.ensures.stays

pub returns-clause-names : goal.returns-clause-names
returns-clause-names g c = names_on c.args.self.now c.self.inside.coordinator c.self.inside.acts c.self.inside.operations c.self.inside.labels c.self.inside.draws c.self.view_is c.give.new.acts c.give.ensures.stays

pub returns-clause-ledgers : goal.returns-clause-ledgers
returns-clause-ledgers g c = ledgers_are c.args.self.now c.self.inside.coordinator c.self.inside.acts c.self.inside.operations c.self.inside.labels c.self.inside.draws c.self.view_is

pub returns-clause-draws : goal.returns-clause-draws
returns-clause-draws g c = draws_are c.args.self.now c.self.inside.coordinator c.self.inside.acts c.self.inside.operations c.self.inside.labels c.self.inside.draws c.self.view_is
