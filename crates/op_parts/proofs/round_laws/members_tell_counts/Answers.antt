use Rattle.op_parts.proofs.RoundBehind.{all_told}
use Rattle.op_parts.proofs.round_laws.members_tell_counts.Goals as goal

pub returns : goal.returns
returns c = λ accepts ask state past sound. all_told c.counts_are_told_on.ensures accepts ask state past sound
