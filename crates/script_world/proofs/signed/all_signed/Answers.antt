use Rattle.script_world.proofs.SignedMore.{all_more}
use Rattle.script_world.proofs.signed.all_signed.Goals as goal

pub loop-id-preserved : goal.loop-id-preserved
loop-id-preserved g c =
    all_more c.args.handle.now c.args.nonce.now c.args.bank.now.cells c.args.ids.now c.loop-id.id-index c.loop-id.all.items c.push_some.new.all.items c.in_ok-signed.signed
    c.loop-id-test.true c.loop-id.invariant c.in_ok-signed.ensures c.in_ok-push_some.ensures
