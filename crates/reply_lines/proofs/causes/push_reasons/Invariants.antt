use Rattle.std.proofs.Common.{◌≡◌, ◌++◌, map, take}
use Rattle.fault_script.specs.Spelling.{spaced}
use Rattle.port.specs.Cause.{member_cause_of}
use Rattle.reply_lines.specs.Causes.{reason_value}
use Rattle.reply_lines.proofs.causes.push_reasons.Given as goal

abbrev pub invariant-loop-id : goal.invariant-loop-id
invariant-loop-id l = l.line.bytes ≡ l.fn.line.bytes ++ spaced (map reason_value (map (λ r. (r.0, member_cause_of r.1)) (take l.id-index l.reasons)))
