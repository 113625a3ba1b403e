use Rattle.std.proofs.Common.{◌≡◌, max, drop}
use Rattle.op_latest.specs.LatestVote.{greatest, heads}
use Rattle.op_latest.proofs.latest_votes.greatest.Given as goal

abbrev pub invariant-loop-one : goal.invariant-loop-one
invariant-loop-one l = max l.most (greatest (heads (drop l.one-index l.votes))) ≡ greatest (heads l.votes)
