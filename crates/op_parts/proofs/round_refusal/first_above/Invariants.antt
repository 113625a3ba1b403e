use Rattle.std.proofs.Common.{◌≡◌, drop}
use Rattle.op_parts.specs.RoundRefusal.{causes, first_given, above}
use Rattle.op_parts.proofs.round_refusal.first_above.Given as goal

abbrev pub invariant-loop-id : goal.invariant-loop-id
invariant-loop-id l = first_given (above l.first) (causes (drop l.id-index l.reasons)) ≡ first_given (above l.first) (causes l.reasons)
