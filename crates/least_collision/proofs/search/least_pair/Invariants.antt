use Rattle.std.proofs.Common.{take}
use Rattle.least_collision.proofs.Collisions.{IsLeast, pair_of, pairs_cmp, pairs_total, StartsIn}
use Rattle.least_collision.proofs.search.least_pair.Given as goal

-- the least pair that begins with one of the texts so far
abbrev pub invariant-loop-item : goal.invariant-loop-item
invariant-loop-item l = IsLeast pair_of pairs_cmp pairs_total (StartsIn (take l.item-index l.given) l.given) l.least
