use Rattle.endorser_cell.specs.CellBank.{bank_view}
use Rattle.script_world.proofs.Carrying.{keeps_on, keeps_still}
use Rattle.script_world.proofs.Goes.{here}
use Rattle.script_world.proofs.Kept.{kept_on}
use Rattle.script_world.proofs.LinesMade.{read_newest}
use Rattle.script_world.proofs.world.World.latest.Goals as goal

pub ask_for_newest-requires : goal.ask_for_newest-requires
ask_for_newest-requires g c =
    record { client = here c.args.self.now c.self.inside.coordinator c.self.inside.acts c.self.inside.operations c.self.inside.labels c.self.inside.draws c.args.client c.self.view_is c.requires }

pub invariant_of-self : goal.invariant_of-self
invariant_of-self g c =
    kept_on c.operations_keep_draws.ensures.stays c.self.inside.acts c.ask_for_newest.new.acts c.self.inside.operations c.in_err-line.ensures.stays c.self.invariant

pub invariant_of-self-2 : goal.invariant_of-self-2
invariant_of-self-2 g c =
    kept_on c.operations_keep_draws.ensures.stays c.self.inside.acts c.ask_for_newest.new.acts c.self.inside.operations c.in_ok-line.ensures.stays c.self.invariant

pub returns-clause-line : goal.returns-clause-line
returns-clause-line g c =
    let inside = c.self.inside in
    read_newest g.G.Checker.Checker.accepts (bank_view g.G.Signer.Signer.key_of g.G.Signer.Signer.left_of g.G.Checker.Checker.accepts) inside.coordinator c.ask_for_newest.new.coordinator inside.acts c.ask_for_newest.new.acts inside.operations c.args.client
    c.args.self.now inside.labels inside.draws c.in_ok-next.next c.handle_for-handle.result c.nonce.result c.args.label.now c.in_ok-line.line.bytes
    c.self.view_is c.handle_for-handle.ensures c.nonce.ensures c.in_ok-line.ensures.asked c.in_ok-next.ensures

pub returns-clause-keeps : goal.returns-clause-keeps
returns-clause-keeps g c =
    let inside = c.self.inside in
    keeps_on c.args.self.now inside.coordinator inside.acts inside.operations inside.labels inside.draws c.self.view_is c.ask_for_newest.new.coordinator c.ask_for_newest.new.acts inside.labels c.in_ok-next.next c.in_ok-line.ensures.stays

pub returns-in_err-line-clause-keeps : goal.returns-in_err-line-clause-keeps
returns-in_err-line-clause-keeps g c =
    let inside = c.self.inside in
    keeps_on c.args.self.now inside.coordinator inside.acts inside.operations inside.labels inside.draws c.self.view_is c.ask_for_newest.new.coordinator c.ask_for_newest.new.acts inside.labels inside.draws c.in_err-line.ensures.stays

pub returns-in_err-next-clause-keeps : goal.returns-in_err-next-clause-keeps
returns-in_err-next-clause-keeps g c = keeps_still c.args.self.now
