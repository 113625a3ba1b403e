use Rattle.std.proofs.Common.{◌≡◌, ◌++◌, drop, map}
use Rattle.std.specs.List.{flat_map}
use Rattle.fault_script.specs.Seen.{commands_of}
use Rattle.world_run.specs.SetUp.{made_by}
use Rattle.world_run.proofs.set_up.made_labels.Given as goal

abbrev pub invariant-loop-line : goal.invariant-loop-line
invariant-loop-line l = map (λ one. one.now) l.labels.items ++ flat_map made_by (commands_of (drop l.line-index l.lines)) ≡ flat_map made_by (commands_of l.lines)
