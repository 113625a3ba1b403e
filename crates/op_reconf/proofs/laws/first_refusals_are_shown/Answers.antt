use Rattle.std.specs.Prelude.{Err}
use Rattle.op_reconf.proofs.Ending.{answer_says, refusal_shown}
use Rattle.op_reconf.proofs.laws.first_refusals_are_shown.Goals as goal

pub returns : goal.returns
returns c = λ accepts from state past cause sound is.
    refusal_shown from past cause
    (answer_says from c.quorums_are_parted.ensures.enough c.quorums_are_parted.ensures.few accepts state past (Err cause) sound is)
