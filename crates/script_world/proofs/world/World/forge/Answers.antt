use Rattle.std.proofs.Common.{map, refl}
use Rattle.script_world.proofs.Carrying.{none_reads}
use Rattle.script_world.proofs.Goes.{goes_still}
use Rattle.script_world.proofs.Kept.{reads_among}
use Rattle.script_world.proofs.Offering.{forged, stands_at}
use Rattle.script_operations.specs.Operations.{tasks_of}
use Rattle.script_world.proofs.world.World.forge.Goals as goal

pub newest_view-view-requires : goal.newest_view-view-requires
newest_view-view-requires g c =
    let reading = c.in-Some.reading in
    let among = reads_among c.self.inside.operations c.args.op.now reading.client reading.handle reading.nonce c.in-Some.ensures.some in
    record { place = c.operations_keep_draws.ensures.reads c.self.inside.acts.clients (tasks_of c.self.inside.operations) reading.client among.0 reading.handle reading.nonce c.self.invariant.drawn among.1 }

pub returns-in_default-clause-forged : goal.returns-in_default-clause-forged
returns-in_default-clause-forged g c = (none_reads c.args.self.now c.self.inside.coordinator c.self.inside.acts c.self.inside.operations c.self.inside.labels c.self.inside.draws c.self.view_is c.args.op.now c.in_default.ensures.none, refl)

pub returns-in_default-clause-goes : goal.returns-in_default-clause-goes
returns-in_default-clause-goes g c = goes_still c.args.self.now

pub returns-in_err-reply-clause-goes : goal.returns-in_err-reply-clause-goes
returns-in_err-reply-clause-goes g c = goes_still c.args.self.now

pub returns-clause-forged : goal.returns-clause-forged
returns-clause-forged g c =
    let inside = c.self.inside in
    let reading = c.in-Some.reading in
    let among = reads_among inside.operations c.args.op.now reading.client reading.handle reading.nonce c.in-Some.ensures.some in
    let stood = stands_at inside.acts.clients reading.client (c.operations_keep_draws.ensures.reads inside.acts.clients (tasks_of inside.operations) reading.client among.0 reading.handle reading.nonce c.self.invariant.drawn among.1) in
    forged g.G.Signer.Signer.key_of g.G.Signer.Signer.left_of g.G.Checker.Checker.accepts g.K.RunName.accepts c.args.self.now c.give.new.self inside.coordinator inside.acts inside.operations inside.labels inside.draws
    c.self.view_is c.args.op.now g.G.Signer.Signer.signs c.args.count (map (λ member. (member.id, member.signer)) c.args.signers.items) reading.client c.store.result.now c.newest_view-view.result reading.handle reading.nonce stood.0 c.in_ok-reply.reply c.give.result
    c.in-Some.ensures.some stood.1 c.store.ensures (c.newest_view-view.ensures stood.0 stood.1) c.in_ok-reply.ensures.forged c.in_ok-reply.ensures.marks c.give.ensures.given
