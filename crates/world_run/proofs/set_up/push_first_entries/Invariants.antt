use Rattle.std.proofs.Common.{◌≡◌, ◌≤◌, ◌++◌, drop, map}
use Rattle.fault_script.specs.Seen.{commands_of}
use Rattle.world_run.specs.SetUp.{AllWithin, first_entries}
use Rattle.world_run.proofs.set_up.push_first_entries.Given as goal

abbrev pub invariant-loop-line : goal.invariant-loop-line
invariant-loop-line l =
    (map (λ text. text.bytes) l.texts.items ++ first_entries l.draws (commands_of (drop l.line-index l.lines)) ≡ map (λ text. text.bytes) l.fn.texts.items ++ first_entries 0 (commands_of l.lines))
    × AllWithin (commands_of (drop l.line-index l.lines))
    × (l.draws ≤ l.line-index)
