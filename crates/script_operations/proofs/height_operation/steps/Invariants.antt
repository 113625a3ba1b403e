use Rattle.op_entry.specs.Sound.{Sound}
use Rattle.op_entry.specs.State.{is_live}
use Rattle.script_operations.specs.Stepping.{GoesFor}
use Rattle.script_operations.proofs.height_operation.steps.Given as goal

abbrev pub invariant-loop : goal.invariant-loop
invariant-loop g l = GoesFor g.S.Store.view g.L.Link.view l.fn.coordinator l.coordinator (Sound (g.C.Checker.accepts l.fn.coordinator.checker)) is_live l.fn.op l.op l.counter
