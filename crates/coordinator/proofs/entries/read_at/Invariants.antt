use Rattle.op_entry.specs.Ask.{ReadAt}
use Rattle.op_entry.specs.State.{calls_left}
use Rattle.coordinator.specs.Entries.{Comes}
use Rattle.coordinator.proofs.entries.read_at.Given as goal

abbrev pub invariant-loop-alloc : goal.invariant-loop-alloc
invariant-loop-alloc g l = Comes (g.C.Checker.accepts l.checker) g.S.Store.view g.L.Link.view (ReadAt l.fn.handle l.fn.height) l.fn.chain l.fn.store l.fn.link l.op l.store l.link

abbrev pub decreases-loop-alloc : goal.decreases-loop-alloc
decreases-loop-alloc g l = calls_left l.op
