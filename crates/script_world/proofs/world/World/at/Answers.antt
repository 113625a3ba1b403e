use Rattle.endorser_cell.specs.CellBank.{bank_view}
use Rattle.script_world.proofs.Carrying.{keeps_on}
use Rattle.script_world.proofs.Goes.{here}
use Rattle.script_world.proofs.Kept.{kept_on}
use Rattle.script_world.proofs.LinesMade.{read_height}
use Rattle.script_world.proofs.world.World.at.Goals as goal

pub ask_for_row-requires-clause-client : goal.ask_for_row-requires-clause-client
ask_for_row-requires-clause-client g c =
    here c.args.self.now c.self.inside.coordinator c.self.inside.acts c.self.inside.operations c.self.inside.labels c.self.inside.draws c.args.client c.self.view_is c.requires.client

pub invariant_of-self : goal.invariant_of-self
invariant_of-self g c =
    kept_on c.operations_keep_draws.ensures.stays c.self.inside.acts c.ask_for_row.new.acts c.self.inside.operations c.in_err-line.ensures.stays c.self.invariant

pub invariant_of-self-2 : goal.invariant_of-self-2
invariant_of-self-2 g c =
    kept_on c.operations_keep_draws.ensures.stays c.self.inside.acts c.ask_for_row.new.acts c.self.inside.operations c.in_ok-line.ensures.stays c.self.invariant

pub returns-clause-line : goal.returns-clause-line
returns-clause-line g c =
    let inside = c.self.inside in
    read_height g.G.Checker.Checker.accepts (bank_view g.G.Signer.Signer.key_of g.G.Signer.Signer.left_of g.G.Checker.Checker.accepts) inside.coordinator c.ask_for_row.new.coordinator inside.acts c.ask_for_row.new.acts inside.operations c.args.client
    c.args.self.now inside.labels inside.draws c.handle_for-handle.result c.args.label.now c.args.height c.in_ok-line.line.bytes
    c.self.view_is c.handle_for-handle.ensures c.in_ok-line.ensures.asked

pub returns-clause-keeps : goal.returns-clause-keeps
returns-clause-keeps g c =
    let inside = c.self.inside in
    keeps_on c.args.self.now inside.coordinator inside.acts inside.operations inside.labels inside.draws c.self.view_is c.ask_for_row.new.coordinator c.ask_for_row.new.acts inside.labels inside.draws c.in_ok-line.ensures.stays

pub returns-in_err-line-clause-keeps : goal.returns-in_err-line-clause-keeps
returns-in_err-line-clause-keeps g c =
    let inside = c.self.inside in
    keeps_on c.args.self.now inside.coordinator inside.acts inside.operations inside.labels inside.draws c.self.view_is c.ask_for_row.new.coordinator c.ask_for_row.new.acts inside.labels inside.draws c.in_err-line.ensures.stays
