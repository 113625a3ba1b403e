use Rattle.std.proofs.Common.{refl}
use Rattle.script_world.proofs.Carrying.{none_reads}
use Rattle.script_world.proofs.Goes.{goes_same, goes_still}
use Rattle.script_world.proofs.Kept.{kept_with}
use Rattle.script_world.proofs.Offering.{nothing, offered}
use Rattle.script_world.proofs.world.World.offer.Goals as goal

pub invariant_of-self-in-None : goal.invariant_of-self-in-None
invariant_of-self-in-None g c = kept_with c.self.inside.acts c.self.inside.operations c.close.new.self c.close.ensures.tasks c.self.invariant

pub returns-in_default-clause-offered : goal.returns-in_default-clause-offered
returns-in_default-clause-offered g c = (none_reads c.args.self.now c.self.inside.coordinator c.self.inside.acts c.self.inside.operations c.self.inside.labels c.self.inside.draws c.self.view_is c.args.op.now c.in_default.ensures.none, refl)

pub returns-in_default-clause-goes : goal.returns-in_default-clause-goes
returns-in_default-clause-goes g c = goes_still c.args.self.now

pub returns-in_err-made-clause-goes : goal.returns-in_err-made-clause-goes
returns-in_err-made-clause-goes g c = goes_still c.args.self.now

pub returns-in-Some-made-clause-offered : goal.returns-in-Some-made-clause-offered
returns-in-Some-made-clause-offered g c =
    let inside = c.self.inside in
    let reading = c.in-Some.reading in
    offered g.G.Signer.Signer.key_of g.G.Signer.Signer.left_of g.G.Checker.Checker.accepts g.K.RunName.accepts c.args.self.now c.give.new.self inside.coordinator inside.acts inside.operations inside.labels inside.draws
    c.self.view_is c.args.op.now reading.client reading.handle reading.nonce c.args.ids.now c.in_ok-made.made c.in-Some-made.reply c.give.result c.in-Some.ensures.some c.in_ok-made.ensures.reply c.in-Some-made.is c.give.ensures.given

pub returns-in_err-no_reply_line-in-None-clause-goes : goal.returns-in_err-no_reply_line-in-None-clause-goes
returns-in_err-no_reply_line-in-None-clause-goes g c =
    let inside = c.self.inside in
    goes_same c.args.self.now inside.coordinator inside.coordinator inside.acts inside.operations c.close.new.self inside.labels inside.labels inside.draws inside.draws c.self.view_is refl

pub returns-in_ok-no_reply_line-in-None-clause-goes : goal.returns-in_ok-no_reply_line-in-None-clause-goes
returns-in_ok-no_reply_line-in-None-clause-goes g c =
    let inside = c.self.inside in
    goes_same c.args.self.now inside.coordinator inside.coordinator inside.acts inside.operations c.close.new.self inside.labels inside.labels inside.draws inside.draws c.self.view_is refl

pub returns-in_ok-no_reply_line-in-None-clause-offered : goal.returns-in_ok-no_reply_line-in-None-clause-offered
returns-in_ok-no_reply_line-in-None-clause-offered g c =
    let inside = c.self.inside in
    let reading = c.in-Some.reading in
    nothing g.G.Signer.Signer.key_of g.G.Signer.Signer.left_of g.G.Checker.Checker.accepts g.K.RunName.accepts c.args.self.now inside.coordinator inside.acts inside.operations inside.labels inside.draws
    c.self.view_is c.args.op.now c.close.new.self reading.client reading.handle reading.nonce c.args.ids.now c.in_ok-no_reply_line-in-None.field-0.bytes c.in_ok-made.made c.in-Some.ensures.some c.in_ok-made.ensures.none c.in-None.is
    c.in_ok-no_reply_line-in-None.ensures c.close.ensures.closed
