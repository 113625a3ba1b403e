use Rattle.std.proofs.Common.{take, nat_cmp}
use Rattle.std.specs.Cmp.Lexicographic.{slice_cmp}
use Rattle.std.proofs.lemmas.Cmp.{nat_list_cmp_total}
use Rattle.least_collision.specs.Collision.{IsPartner}
use Rattle.least_collision.proofs.Collisions.{bytes_of, IsLeast}
use Rattle.least_collision.proofs.search.least_partner.Given as goal

abbrev pub invariant-loop-item : goal.invariant-loop-item
invariant-loop-item l =
    IsLeast bytes_of (slice_cmp nat_cmp) nat_list_cmp_total (IsPartner (take l.item-index l.given) l.one) l.least
