use Rattle.std.proofs.Common.{◌≡◌, drop}
use Rattle.op_latest.specs.LatestVote.{first_above}
use Rattle.op_latest.proofs.latest_votes.first_above.Given as goal

abbrev pub invariant-loop-one : goal.invariant-loop-one
invariant-loop-one l = first_above l.first (drop l.one-index l.votes) ≡ first_above l.first l.votes
