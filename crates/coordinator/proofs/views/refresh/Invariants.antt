use Rattle.op_parts.specs.RefreshState.{calls_left}
use Rattle.coordinator.specs.ViewsRun.{IsRefreshing}
use Rattle.coordinator.proofs.views.refresh.Given as goal

abbrev pub invariant-loop-refresh : goal.invariant-loop-refresh
invariant-loop-refresh g l = IsRefreshing (g.C.Checker.accepts l.checker) g.S.Store.view l.fn.chain l.fn.store l.refresh l.chain l.store

abbrev pub decreases-loop-refresh : goal.decreases-loop-refresh
decreases-loop-refresh g l = calls_left l.refresh l.chain
