use Rattle.std.proofs.Common.{◌≡◌, drop, map}
use Rattle.std.specs.Prelude.{bytes_eq}
use Rattle.std.specs.List.{list_any}
use Rattle.world_run.proofs.set_up.is_among.Given as goal

abbrev pub invariant-loop-one : goal.invariant-loop-one
invariant-loop-one l = list_any (bytes_eq l.label) (map (λ one. one.now) (drop l.one-index l.made)) ≡ list_any (bytes_eq l.label) (map (λ one. one.now) l.made)
