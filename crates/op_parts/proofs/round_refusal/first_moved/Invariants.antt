use Rattle.std.proofs.Common.{◌≡◌}
use Rattle.std.specs.Vec.Iter.{into_iter_items}
use Rattle.op_parts.specs.RoundRefusal.{causes, first_given, moved}
use Rattle.op_parts.proofs.round_refusal.first_moved.Given as goal

abbrev pub invariant-loop-id : goal.invariant-loop-id
invariant-loop-id l =
    (goal.iterator-loop-id).can_next l.id-iterator
    × (goal.iterator-loop-id).is_finite l.id-iterator
    × (first_given (moved l.from) (causes (into_iter_items l.id-iterator)) ≡ first_given (moved l.from) (causes l.fn.reasons.items))
