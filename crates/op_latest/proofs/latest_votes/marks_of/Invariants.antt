use Rattle.std.proofs.Common.{◌≡◌, ◌++◌}
use Rattle.std.specs.Vec.Iter.{into_iter_items}
use Rattle.op_latest.specs.LatestVote.{marks_of}
use Rattle.op_latest.proofs.latest_votes.marks_of.Given as goal

abbrev pub invariant-loop-id : goal.invariant-loop-id
invariant-loop-id l = l.marks.items ++ marks_of l.head (into_iter_items l.id-iterator) ≡ marks_of l.head l.fn.votes.items
