use Rattle.op_latest.specs.LatestState.{calls_left}
use Rattle.coordinator.specs.Latest.{Comes}
use Rattle.coordinator.proofs.latest.read_latest.Given as goal

abbrev pub invariant-loop-alloc : goal.invariant-loop-alloc
invariant-loop-alloc g l = Comes (g.C.Checker.accepts l.checker) g.S.Store.view g.L.Link.view (record { handle = l.fn.handle; nonce = l.fn.nonce }) l.fn.chain l.fn.store l.fn.link l.op l.store l.link

abbrev pub decreases-loop-alloc : goal.decreases-loop-alloc
decreases-loop-alloc g l = calls_left l.op
