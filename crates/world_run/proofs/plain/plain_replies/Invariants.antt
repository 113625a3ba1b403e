use Rattle.std.proofs.Common.{◌≡◌, ◌++◌, map, take, drop}
use Rattle.fault_script.specs.Seen.{commands_of}
use Rattle.world_run.specs.Plain.{known_after, nothing, replies}
use Rattle.world_run.proofs.plain.plain_replies.Given as goal

abbrev pub invariant-loop-i : goal.invariant-loop-i
invariant-loop-i l =
    map (λ line. line.bytes) l.said.items ++ replies (known_after (commands_of (take l.i l.lines))) (commands_of (drop l.i l.lines)) ≡ replies nothing (commands_of l.lines)
