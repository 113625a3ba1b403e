use Rattle.std.proofs.Common.{◌≡◌, ◌==◌, drop}
use Rattle.std.specs.Prelude.{find, unwrap_or}
use Rattle.op_latest.specs.LatestVote.{heads, no_entries, target}
use Rattle.op_latest.proofs.latest_votes.target.Given as goal

abbrev pub invariant-loop-one : goal.invariant-loop-one
invariant-loop-one l = unwrap_or (find (λ head. head.count == l.count) (heads (drop l.one-index l.votes))) no_entries ≡ target l.votes
