use Rattle.op_reconf.proofs.Ending.{calls_own}
use Rattle.op_reconf.proofs.laws.first_calls_are_own.Goals as goal

pub returns : goal.returns
returns c = λ accepts from state past sound. calls_own from c.quorums_are_parted.ensures.enough accepts state past sound
