use Rattle.std.proofs.Common.{◌≡◌, ◌+◌, ◌≤◌, drop}
use Rattle.statement.specs.Config.{weight_together}
use Rattle.op_latest.specs.LatestVote.{supporters}
use Rattle.op_latest.proofs.latest_votes.has_quorum.Given as goal

abbrev pub invariant-loop-one : goal.invariant-loop-one
invariant-loop-one l = record {
  so_far : l.got + weight_together l.config (supporters l.head (drop l.one-index l.votes)) ≡ weight_together l.config (supporters l.head l.votes);
  few : l.got ≤ l.one-index;
}
