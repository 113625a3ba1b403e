use Rattle.std.proofs.Common.{◌≡◌, ◌++◌, drop, map}
use Rattle.std.specs.List.{flat_map}
use Rattle.fault_script.specs.Seen.{commands_of}
use Rattle.world_run.specs.SetUp.{label_text}
use Rattle.world_run.proofs.set_up.push_label_texts.Given as goal

abbrev pub invariant-loop-line : goal.invariant-loop-line
invariant-loop-line l =
    map (λ text. text.bytes) l.texts.items ++ flat_map (label_text (map (λ one. one.now) l.made)) (commands_of (drop l.line-index l.lines))
    ≡ map (λ text. text.bytes) l.fn.texts.items ++ flat_map (label_text (map (λ one. one.now) l.made)) (commands_of l.lines)
