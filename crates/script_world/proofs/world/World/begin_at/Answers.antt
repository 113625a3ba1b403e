use Rattle.std.proofs.Common.{ap}
use Rattle.script_operations.specs.Operations.{tasks_of}
use Rattle.script_operations.specs.Task.{Height}
use Rattle.script_world.proofs.Carrying.{opened_height}
use Rattle.script_world.proofs.Goes.{here}
use Rattle.script_world.proofs.Kept.{kept_begun, kept_with}
use Rattle.script_world.proofs.Lent.{only_operations}
use Rattle.script_world.proofs.world.World.begin_at.Goals as goal

pub invariant_of-self : goal.invariant_of-self
invariant_of-self g c =
    kept_with c.self.inside.acts c.self.inside.operations c.begin_height.new.self (ap tasks_of c.in_err-begin_height.ensures.no_memory) c.self.invariant

pub invariant_of-self-2 : goal.invariant_of-self-2
invariant_of-self-2 g c =
    kept_begun c.operations_keep_draws.ensures.task c.self.inside.acts c.self.inside.operations c.begin_height.new.self c.args.op.now (Height c.args.client c.handle_for-handle.result c.args.height) c.args.label.now c.chain-chain.result.now
    c.in_ok-begin_height.ensures.begun
    (here c.args.self.now c.self.inside.coordinator c.self.inside.acts c.self.inside.operations c.self.inside.labels c.self.inside.draws c.args.client c.self.view_is c.requires.client, c.requires.below) c.self.invariant

pub returns-clause-rest : goal.returns-clause-rest
returns-clause-rest g c = only_operations c.args.self.now c.self.inside.coordinator c.self.inside.acts c.self.inside.operations c.self.inside.labels c.self.inside.draws c.self.view_is c.begin_height.new.self

pub returns-in_err-begin_height-clause-rest : goal.returns-in_err-begin_height-clause-rest
returns-in_err-begin_height-clause-rest g c = only_operations c.args.self.now c.self.inside.coordinator c.self.inside.acts c.self.inside.operations c.self.inside.labels c.self.inside.draws c.self.view_is c.begin_height.new.self

pub returns-clause-opened : goal.returns-clause-opened
returns-clause-opened g c =
    let inside = c.self.inside in
    opened_height c.args.self.now inside.coordinator inside.acts inside.operations inside.labels inside.draws c.self.view_is c.begin_height.new.self
    c.args.op.now c.args.client c.handle_for-handle.result c.args.height c.args.label.now c.chain-chain.result.now c.in_ok-begin_height.ensures.begun c.chain-chain.ensures c.handle_for-handle.ensures
