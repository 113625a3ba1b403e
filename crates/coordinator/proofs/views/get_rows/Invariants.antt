use Rattle.std.proofs.Common.{length, ◌-◌}
use Rattle.coordinator.specs.ViewsRun.{IsGetting}
use Rattle.coordinator.proofs.views.get_rows.Given as goal

abbrev pub invariant-loop-number : goal.invariant-loop-number
invariant-loop-number g l = IsGetting (g.C.Checker.accepts l.checker) g.S.Store.view l.chain l.fn.first l.number l.fn.below.items l.rows.items l.fn.store l.store

abbrev pub decreases-loop-number : goal.decreases-loop-number
decreases-loop-number g l = length l.chain.configs - l.number
