use Rattle.std.proofs.Common.{refl}
use Rattle.settle.proofs.turn.Turn.stands.Goals as goal

pub returns-clause-takes : goal.returns-clause-takes
returns-clause-takes c = (c.args.chain, refl, refl, refl)
