use Rattle.op_entry.proofs.Growing.{has_grown}
use Rattle.op_entry.proofs.Owning.{all_own}
use Rattle.op_entry.proofs.Saying.{says_at}
use Rattle.op_entry.proofs.operation.Operation.into_parts.Goals as goal

pub returns-clause-says : goal.returns-clause-says
returns-clause-says c accepts ask from past sound = says_at accepts ask from c.args.self.chain c.args.self.stage past sound

pub returns-clause-own : goal.returns-clause-own
returns-clause-own c accepts ask from past sound = all_own accepts from c.args.self.chain c.settling_calls_are_own.ensures ask c.args.self.stage past sound

pub returns-clause-grown : goal.returns-clause-grown
returns-clause-grown c accepts ask from past sound = has_grown accepts from c.args.self.chain ask c.args.self.stage past sound
