use Rattle.statement.proofs.Quorums.{meet}
use Rattle.statement.proofs.laws.quorums_meet.Goals as goal

pub returns : goal.returns
returns c = meet
