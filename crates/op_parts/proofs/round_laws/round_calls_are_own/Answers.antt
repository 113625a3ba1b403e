use Rattle.op_parts.proofs.RoundOwn.{all_own}
use Rattle.op_parts.proofs.round_laws.round_calls_are_own.Goals as goal

pub returns : goal.returns
returns c = λ accepts ask state past sound event had.
    all_own c.calls_are_own.ensures.store c.calls_are_own.ensures.link ask accepts state past sound event had
