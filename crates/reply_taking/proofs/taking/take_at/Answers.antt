use Rattle.client_pass.specs.Act.{At}
use Rattle.reply_taking.proofs.Growing.{grows_again, reply_grows}
use Rattle.reply_taking.proofs.Noting.{noted_after, unnoted_after}
use Rattle.reply_taking.proofs.taking.take_at.Goals as goal

pub returns-clause-grows : goal.returns-clause-grows
returns-clause-grows g c =
    grows_again c.args.pass.now c.learn.new.pass c.take_at.new.self c.learn.ensures.grows
    (reply_grows c.learn.new.pass c.take_at.new.self (At c.args.handle.now c.args.height c.args.reply.now) c.take_at.result c.take_at.ensures.noted c.take_at.ensures.same)

pub returns-clause-noted : goal.returns-clause-noted
returns-clause-noted g c =
    noted_after c.args.pass.now c.learn.new.pass c.take_at.new.self (At c.args.handle.now c.args.height c.args.reply.now) c.learn.ensures.views c.take_at.result c.take_at.ensures.noted

pub returns-clause-unnoted : goal.returns-clause-unnoted
returns-clause-unnoted g c =
    unnoted_after c.args.pass.now c.learn.new.pass c.take_at.new.self (At c.args.handle.now c.args.height c.args.reply.now) c.learn.ensures.views c.take_at.result c.take_at.ensures.same
