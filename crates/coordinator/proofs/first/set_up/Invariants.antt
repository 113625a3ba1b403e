use Rattle.op_reconf.specs.State.{calls_left}
use Rattle.coordinator.specs.First.{Comes}
use Rattle.coordinator.proofs.first.set_up.Given as goal

abbrev pub invariant-loop-alloc : goal.invariant-loop-alloc
invariant-loop-alloc g l = Comes (g.C.Checker.accepts l.checker) g.S.Store.view g.L.Link.view l.fn.chain l.fn.store l.fn.link l.op l.store l.link

abbrev pub decreases-loop-alloc : goal.decreases-loop-alloc
decreases-loop-alloc g l = calls_left l.op
