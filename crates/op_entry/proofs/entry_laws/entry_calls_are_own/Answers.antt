use Rattle.op_entry.proofs.Owning.{all_own}
use Rattle.op_entry.proofs.entry_laws.entry_calls_are_own.Goals as goal

pub returns : goal.returns
returns c accepts ask from state past sound = all_own accepts from state.chain c.settling_calls_are_own.ensures ask state.stage past sound
