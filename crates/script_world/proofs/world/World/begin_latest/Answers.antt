use Rattle.std.proofs.Common.{ap, refl}
use Rattle.endorser_cell.specs.CellBank.{bank_view}
use Rattle.script_operations.specs.Operations.{tasks_of}
use Rattle.script_operations.specs.Task.{Newest}
use Rattle.script_world.proofs.Beginning.{began_latest, turn_begun}
use Rattle.script_world.proofs.Carrying.{opened_read}
use Rattle.script_world.proofs.Goes.{goes, here}
use Rattle.script_world.proofs.Kept.{kept_begun, kept_on, kept_with}
use Rattle.script_world.proofs.world.World.begin_latest.Goals as goal

pub draw_read-requires : goal.draw_read-requires
draw_read-requires g c =
    record { client = here c.args.self.now c.self.inside.coordinator c.self.inside.acts c.self.inside.operations c.self.inside.labels c.self.inside.draws c.args.client c.self.view_is c.requires }

pub invariant_of-self : goal.invariant_of-self
invariant_of-self g c =
    kept_on c.operations_keep_draws.ensures.stays c.self.inside.acts c.draw_read.new.acts c.self.inside.operations c.in_err-draw.ensures.stays c.self.invariant

pub invariant_of-self-in_err-begin_newest : goal.invariant_of-self-in_err-begin_newest
invariant_of-self-in_err-begin_newest g c =
    kept_with c.draw_read.new.acts c.self.inside.operations c.begin_newest.new.self (ap tasks_of c.in_err-begin_newest.ensures.no_memory)
    (kept_on c.operations_keep_draws.ensures.stays c.self.inside.acts c.draw_read.new.acts c.self.inside.operations c.in_ok-draw.ensures.stays c.self.invariant)

pub invariant_of-self-2 : goal.invariant_of-self-2
invariant_of-self-2 g c =
    kept_begun c.operations_keep_draws.ensures.task c.draw_read.new.acts c.self.inside.operations c.begin_newest.new.self c.args.op.now (Newest c.args.client c.in_ok-draw.draw c.handle_for-handle.result c.nonce-nonce.result) c.args.label.now c.chain-chain.result.now
    c.in_ok-begin_newest.ensures.begun c.in_ok-draw.ensures.read
    (kept_on c.operations_keep_draws.ensures.stays c.self.inside.acts c.draw_read.new.acts c.self.inside.operations c.in_ok-draw.ensures.stays c.self.invariant)

pub returns-clause-began : goal.returns-clause-began
returns-clause-began g c =
    let inside = c.self.inside in
    began_latest inside.coordinator inside.acts c.draw_read.new.acts inside.operations c.begin_newest.new.self c.args.client c.args.self.now inside.labels inside.draws c.in_ok-next.next c.nonce-nonce.result
    c.self.view_is c.nonce-nonce.ensures c.in_ok-draw.ensures.drew c.in_ok-next.ensures

pub returns-clause-goes : goal.returns-clause-goes
returns-clause-goes g c =
    let inside = c.self.inside in
    goes c.args.self.now inside.coordinator inside.coordinator inside.acts c.draw_read.new.acts inside.operations c.begin_newest.new.self inside.labels inside.labels inside.draws c.in_ok-next.next c.self.view_is refl c.in_ok-draw.ensures.stays

pub returns-clause-opened : goal.returns-clause-opened
returns-clause-opened g c =
    let inside = c.self.inside in
    opened_read c.args.self.now inside.coordinator inside.acts inside.operations inside.labels inside.draws c.self.view_is c.draw_read.new.acts c.begin_newest.new.self inside.labels c.in_ok-next.next
    c.args.op.now c.args.client c.in_ok-draw.draw c.handle_for-handle.result c.nonce-nonce.result c.args.label.now c.chain-chain.result.now
    c.in_ok-draw.ensures.read c.in_ok-begin_newest.ensures.begun c.chain-chain.ensures c.handle_for-handle.ensures c.nonce-nonce.ensures c.in_ok-draw.ensures.stays.names

pub returns-clause-turns : goal.returns-clause-turns
returns-clause-turns g c =
    let inside = c.self.inside in
    turn_begun (bank_view g.G.Signer.Signer.key_of g.G.Signer.Signer.left_of g.G.Checker.Checker.accepts) c.args.self.now inside.coordinator inside.acts c.draw_read.new.acts inside.operations inside.labels inside.draws c.self.view_is
    c.args.client c.served_so_far-calls.result c.served_so_far-calls.ensures c.in_ok-draw.ensures.turn
