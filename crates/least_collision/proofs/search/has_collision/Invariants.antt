use Rattle.std.proofs.Common.{ℕ, List, take}
use Rattle.std.specs.Option.{option_copied}
use Rattle.std.specs.Ordering.{nat_cmp}
use Rattle.std.specs.Cmp.Lexicographic.{slice_cmp}
use Rattle.std.specs.BTreeMap.{get}
use Rattle.least_collision.proofs.Collisions.{Known}
use Rattle.least_collision.proofs.search.has_collision.Given as goal

-- the map has what is known of the texts so far
abbrev pub invariant-loop-item : goal.invariant-loop-item
invariant-loop-item l =
    (digest : List ℕ) → Known (take l.item-index l.given) digest (option_copied (get (slice_cmp nat_cmp) l.texts digest))
