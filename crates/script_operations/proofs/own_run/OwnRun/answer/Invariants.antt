use Rattle.op_entry.specs.Sound.{Sound}
use Rattle.op_entry.specs.State.{calls_left}
use Rattle.script_operations.specs.Operations.{state_of}
use Rattle.script_operations.specs.Stepping.{Goes}
use Rattle.script_operations.proofs.own_run.OwnRun.answer.Given as goal

abbrev pub invariant-loop-alloc : goal.invariant-loop-alloc
invariant-loop-alloc g l = Goes g.S.Store.view g.L.Link.view l.fn.coordinator l.coordinator (Sound (g.C.Checker.accepts l.fn.coordinator.checker)) (state_of l.fn.self) (state_of l.run)

abbrev pub decreases-loop-alloc : goal.decreases-loop-alloc
decreases-loop-alloc g l = calls_left (state_of l.run)
