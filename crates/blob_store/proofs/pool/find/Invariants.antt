use Rattle.std.proofs.Common.{◌≡◌, drop, map}
use Rattle.blob_store.specs.Pool.{is_held}
use Rattle.blob_store.proofs.pool.find.Given as goal

abbrev pub invariant-loop-text : goal.invariant-loop-text
invariant-loop-text l = is_held (map (λ text. text.value.bytes) (drop l.text-index l.texts)) l.bytes ≡ is_held (map (λ text. text.value.bytes) l.texts) l.bytes
