use Rattle.op_latest.specs.LatestSound.{LatestSound}
use Rattle.op_latest.specs.LatestState.{calls_left}
use Rattle.script_operations.specs.Stepping.{Goes}
use Rattle.script_operations.proofs.newest_operation.answer_of.Given as goal

abbrev pub invariant-loop-alloc : goal.invariant-loop-alloc
invariant-loop-alloc g l = Goes g.S.Store.view g.L.Link.view l.fn.coordinator l.coordinator (LatestSound (g.C.Checker.accepts l.fn.coordinator.checker)) l.fn.op l.op

abbrev pub decreases-loop-alloc : goal.decreases-loop-alloc
decreases-loop-alloc g l = calls_left l.op
