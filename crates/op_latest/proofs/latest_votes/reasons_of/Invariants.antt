use Rattle.std.proofs.Common.{◌≡◌, ◌++◌}
use Rattle.std.specs.Vec.Iter.{into_iter_items}
use Rattle.op_parts.specs.RoundRefusal.{causes}
use Rattle.op_latest.specs.LatestVote.{reasons_of}
use Rattle.op_latest.proofs.latest_votes.reasons_of.Given as goal

abbrev pub invariant-loop-id : goal.invariant-loop-id
invariant-loop-id l = causes l.reasons.items ++ reasons_of l.head (into_iter_items l.id-iterator) ≡ reasons_of l.head l.fn.votes.items
