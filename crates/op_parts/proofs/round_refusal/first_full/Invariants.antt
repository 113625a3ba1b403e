use Rattle.std.proofs.Common.{◌≡◌, drop}
use Rattle.op_parts.specs.RoundRefusal.{causes, first_given, full}
use Rattle.op_parts.proofs.round_refusal.first_full.Given as goal

abbrev pub invariant-loop-id : goal.invariant-loop-id
invariant-loop-id l = first_given full (causes (drop l.id-index l.reasons)) ≡ first_given full (causes l.reasons)
