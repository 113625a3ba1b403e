use Rattle.std.proofs.Common.{ap, refl}
use Rattle.chain_block.specs.Entry.{bare}
use Rattle.coordinator.specs.Entries.{later_entry}
use Rattle.endorser_cell.specs.CellBank.{bank_view}
use Rattle.script_operations.specs.Operations.{tasks_of}
use Rattle.script_operations.specs.Task.{Own}
use Rattle.script_world.specs.Labels.{handle_for}
use Rattle.script_world.specs.Nonce.{nonce}
use Rattle.script_world.specs.Running.{world_of}
use Rattle.script_world.proofs.Beginning.{bare_later, bare_within, began_append, turn_begun}
use Rattle.script_world.proofs.Carrying.{opened_own}
use Rattle.script_world.proofs.Goes.{goes, here}
use Rattle.script_world.proofs.Kept.{kept_begun, kept_on, kept_with}
use Rattle.script_world.proofs.world.World.begin_append.Goals as goal

pub draw_entry-requires-clause-client : goal.draw_entry-requires-clause-client
draw_entry-requires-clause-client g c =
    here c.args.self.now c.self.inside.coordinator c.self.inside.acts c.self.inside.operations c.self.inside.labels c.self.inside.draws c.args.client c.self.view_is c.requires.client

pub invariant_of-self : goal.invariant_of-self
invariant_of-self g c =
    kept_on c.operations_keep_draws.ensures.stays c.self.inside.acts c.draw_entry.new.acts c.self.inside.operations c.in_err-draw.ensures.stays c.self.invariant

pub invariant_of-self-in_err-begin_own : goal.invariant_of-self-in_err-begin_own
invariant_of-self-in_err-begin_own g c =
    kept_with c.draw_entry.new.acts c.self.inside.operations c.begin_own.new.self (ap tasks_of c.in_err-begin_own.ensures.no_memory)
    (kept_on c.operations_keep_draws.ensures.stays c.self.inside.acts c.draw_entry.new.acts c.self.inside.operations c.in_ok-draw.ensures.stays c.self.invariant)

pub invariant_of-self-2 : goal.invariant_of-self-2
invariant_of-self-2 g c =
    kept_begun c.operations_keep_draws.ensures.task c.draw_entry.new.acts c.self.inside.operations c.begin_own.new.self c.args.op.now (Own c.args.client c.in_ok-draw.draw (bare c.in_ok-entry.entry)) c.args.label.now c.chain-chain.result.now
    c.in_ok-begin_own.ensures.begun (c.in_ok-draw.ensures.entry, bare_within c.in_ok-entry.entry c.in_ok-entry.ensures.within)
    (kept_on c.operations_keep_draws.ensures.stays c.self.inside.acts c.draw_entry.new.acts c.self.inside.operations c.in_ok-draw.ensures.stays c.self.invariant)

pub returns-clause-began : goal.returns-clause-began
returns-clause-began g c =
    let inside = c.self.inside in
    began_append inside.coordinator inside.acts c.draw_entry.new.acts inside.operations c.begin_own.new.self c.args.client c.args.self.now inside.labels inside.draws c.in_ok-next.next c.in_ok-entry.entry c.handle_for-handle.result c.args.label.now c.args.height c.args.payload.now
    c.self.view_is c.handle_for-handle.ensures c.in_ok-entry.ensures.entry c.in_ok-draw.ensures.drew c.in_ok-next.ensures

pub returns-clause-goes : goal.returns-clause-goes
returns-clause-goes g c =
    let inside = c.self.inside in
    goes c.args.self.now inside.coordinator inside.coordinator inside.acts c.draw_entry.new.acts inside.operations c.begin_own.new.self inside.labels inside.labels inside.draws c.in_ok-next.next c.self.view_is refl c.in_ok-draw.ensures.stays

pub returns-clause-opened : goal.returns-clause-opened
returns-clause-opened g c =
    let inside = c.self.inside in
    opened_own c.args.self.now inside.coordinator inside.acts inside.operations inside.labels inside.draws c.self.view_is c.draw_entry.new.acts c.begin_own.new.self inside.labels c.in_ok-next.next
    c.args.op.now c.args.client c.in_ok-draw.draw c.in_ok-entry.entry (later_entry (handle_for (world_of c.args.self.now).labels c.args.label.now) c.args.height (nonce c.args.self.now.draws) c.args.payload.now) c.args.label.now c.chain-chain.result.now
    c.in_ok-draw.ensures.entry c.in_ok-begin_own.ensures.begun c.chain-chain.ensures
    (bare_later c.args.self.now inside.coordinator inside.acts inside.operations inside.labels inside.draws c.self.view_is c.in_ok-entry.entry c.handle_for-handle.result c.args.label.now c.args.height c.args.payload.now
    c.handle_for-handle.ensures c.in_ok-entry.ensures.entry)
    c.in_ok-draw.ensures.stays.names

pub returns-clause-turns : goal.returns-clause-turns
returns-clause-turns g c =
    let inside = c.self.inside in
    turn_begun (bank_view g.G.Signer.Signer.key_of g.G.Signer.Signer.left_of g.G.Checker.Checker.accepts) c.args.self.now inside.coordinator inside.acts c.draw_entry.new.acts inside.operations inside.labels inside.draws c.self.view_is
    c.args.client c.served_so_far-calls.result c.served_so_far-calls.ensures c.in_ok-draw.ensures.turn
