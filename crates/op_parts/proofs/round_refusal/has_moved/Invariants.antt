use Rattle.std.proofs.Common.{◌≡◌, ℕ, drop}
use Rattle.op_parts.specs.RoundRefusal.{causes, first_given, moved}
use Rattle.op_parts.proofs.round_refusal.has_moved.Given as goal

abbrev pub invariant-loop-reason : goal.invariant-loop-reason
invariant-loop-reason l = (from : ℕ) → first_given (moved from) (causes (drop l.reason-index l.reasons)) ≡ first_given (moved from) (causes l.reasons)
