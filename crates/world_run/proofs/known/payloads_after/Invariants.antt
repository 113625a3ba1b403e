use Rattle.std.proofs.Common.{◌≡◌, map, take}
use Rattle.fault_script.specs.Seen.{commands_of}
use Rattle.world_run.specs.Plain.{known_after}
use Rattle.world_run.proofs.known.payloads_after.Given as goal

abbrev pub invariant-loop-line : goal.invariant-loop-line
invariant-loop-line l = map (λ payload. payload.now) l.payloads.items ≡ (known_after (commands_of (take l.line-index l.lines))).ledgers l.label
