use Rattle.op_entry.specs.Sound.{Sound}
use Rattle.op_entry.specs.State.{is_live}
use Rattle.script_operations.specs.Operations.{state_of}
use Rattle.script_operations.specs.Stepping.{GoesFor}
use Rattle.script_operations.proofs.own_run.OwnRun.steps.Given as goal

abbrev pub invariant-loop : goal.invariant-loop
invariant-loop g l = GoesFor g.S.Store.view g.L.Link.view l.fn.coordinator l.coordinator (Sound (g.C.Checker.accepts l.fn.coordinator.checker)) is_live (state_of l.fn.self) (state_of l.self) l.counter
