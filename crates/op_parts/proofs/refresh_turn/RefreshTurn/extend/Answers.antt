use Rattle.op_parts.proofs.Extending.{grown}
use Rattle.op_parts.proofs.refresh_turn.RefreshTurn.extend.Goals as goal

pub returns-in-Ok : goal.returns-in-Ok
returns-in-Ok g c = (c.in-Ok.ensures.follows, grown (g.C.Checker.accepts c.args.checker.now) c.args.chain.now _ c.extend.new.self c.in-Ok.ensures.ok)
