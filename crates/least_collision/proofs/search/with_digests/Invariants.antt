use Rattle.std.proofs.Common.{◌≡◌, map, take}
use Rattle.least_collision.specs.Collision.{digested_text}
use Rattle.least_collision.proofs.search.with_digests.Given as goal

abbrev pub invariant-loop-text : goal.invariant-loop-text
invariant-loop-text l = l.given.items ≡ map digested_text (map (λ text. text.bytes) (take l.text-index l.texts))
