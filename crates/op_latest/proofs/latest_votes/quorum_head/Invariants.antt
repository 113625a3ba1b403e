use Rattle.std.proofs.Common.{◌≡◌, drop}
use Rattle.std.specs.Prelude.{find}
use Rattle.op_latest.specs.LatestVote.{has_quorum, heads, quorum_head}
use Rattle.op_latest.proofs.latest_votes.quorum_head.Given as goal

abbrev pub invariant-loop-one : goal.invariant-loop-one
invariant-loop-one l = find (has_quorum l.config l.votes) (heads (drop l.one-index l.votes)) ≡ quorum_head l.config l.votes
