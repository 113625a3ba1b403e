use Rattle.std.proofs.Common.{◌≡◌, map}
use Rattle.std.specs.List.{flat_map, range_with_len}
use Rattle.world_run.proofs.set_up.key_texts.Given as goal

abbrev pub invariant-loop-below : goal.invariant-loop-below
invariant-loop-below g l = map (λ text. text.bytes) l.texts.items ≡ flat_map (g.M.Seals.texts_of l.seals) (range_with_len 1 l.below)
