use Rattle.std.proofs.Common.{◌≡◌}
use Rattle.op_parts.specs.Refresh.{marks_of}
use Rattle.op_parts.proofs.marks.marks_of.Given as goal

abbrev pub invariant-loop-id : goal.invariant-loop-id
invariant-loop-id l = l.marks.items ≡ marks_of l.yielded
