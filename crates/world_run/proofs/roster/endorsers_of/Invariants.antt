use Rattle.std.proofs.Common.{◌≡◌, ◌+◌, ◌*◌}
use Rattle.std.specs.List.{range_with_len}
use Rattle.script_runs.specs.Roster.{AreNewCells, members_by, share}
use Rattle.world_run.proofs.roster.endorsers_of.Given as goal

abbrev pub invariant-loop-below : goal.invariant-loop-below
invariant-loop-below g l =
    (l.members.items ≡ members_by (g.M.Seals.key_of l.seals) (range_with_len 1 l.below))
    × AreNewCells g.M.Scheme.Signer.Signer.key_of g.M.Scheme.Signer.Signer.left_of g.M.Scheme.Checker.Checker.accepts (g.M.Seals.key_of l.seals) (g.M.Seals.left_of l.seals)
    (g.M.Seals.accepts l.seals) (range_with_len 1 l.below) l.cells.items
    × (l.rest.drawn ≡ l.fn.rest.drawn)
    × (l.rest.left + l.below * share ≡ l.fn.rest.left)
