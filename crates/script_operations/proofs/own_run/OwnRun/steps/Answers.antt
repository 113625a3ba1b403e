use Rattle.std.proofs.Common.{ℕ, subst, arith}
use Rattle.op_entry.specs.Sound.{Sound}
use Rattle.op_entry.specs.State.{is_live}
use Rattle.script_operations.specs.Operations.{state_of}
use Rattle.script_operations.specs.Stepping.{GoesFor}
use Rattle.script_operations.proofs.Leading.{goes_for, goes_for_nothing, goes_to_end}
use Rattle.script_operations.proofs.own_run.OwnRun.steps.Goals as goal

pub loop-init : goal.loop-init
loop-init g c = goes_for_nothing g.S.Store.view g.L.Link.view g.C.Checker.accepts Sound is_live c.args.coordinator.now (state_of c.args.self.now)

pub loop-preserved : goal.loop-preserved
loop-preserved g c =
    goes_for g.S.Store.view g.L.Link.view g.C.Checker.accepts Sound is_live c.args.coordinator.now c.loop.coordinator c.step.new.coordinator
    (state_of c.args.self.now) (state_of c.loop.self) (state_of c.step.new.self) c.step.ensures.call c.step.ensures.ended c.loop.counter c.loop.invariant

pub returns-then-not-step : goal.returns-then-not-step
returns-then-not-step g c =
    goes_to_end g.S.Store.view g.L.Link.view g.C.Checker.accepts Sound is_live c.args.coordinator.now c.loop.coordinator c.step.new.coordinator
    (state_of c.args.self.now) (state_of c.loop.self) (state_of c.step.new.self) c.step.ensures.call c.step.ensures.ended c.loop.counter c.args.n c.loop.invariant c.loop-test.true
    (cc (c.step.ensures.live, c.if-not-step.true))

pub returns : goal.returns
returns g c =
    subst
    (λ (n : ℕ). GoesFor g.S.Store.view g.L.Link.view c.args.coordinator.now c.loop.coordinator (Sound (g.C.Checker.accepts c.args.coordinator.now.checker)) is_live (state_of c.args.self.now) (state_of c.loop.self) n)
    (omega (arith, c.loop-test.false, c.loop.auto.counter-end)) c.loop.invariant
