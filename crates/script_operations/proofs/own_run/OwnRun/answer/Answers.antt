use Rattle.port.specs.Trace.{Event}
use Rattle.std.specs.Prelude.{List}
use Rattle.view_ledger.specs.Views.{ViewChain}
use Rattle.op_entry.specs.Ask.{Ask}
use Rattle.op_entry.specs.Sound.{Sound}
use Rattle.op_entry.specs.State.{answer_of, is_live}
use Rattle.script_operations.specs.Ending.{EntryEnded}
use Rattle.script_operations.specs.Operations.{state_of}
use Rattle.script_operations.proofs.Leading.{came, goes_nowhere, goes_on}
use Rattle.script_operations.proofs.own_run.OwnRun.answer.Goals as goal

pub loop-alloc-init : goal.loop-alloc-init
loop-alloc-init g c = goes_nowhere g.S.Store.view g.L.Link.view g.C.Checker.accepts Sound c.args.coordinator.now (state_of c.args.self)

pub loop-alloc-preserved : goal.loop-alloc-preserved
loop-alloc-preserved g c =
    goes_on g.S.Store.view g.L.Link.view g.C.Checker.accepts Sound is_live c.args.coordinator.now c.loop-alloc.coordinator c.step.new.coordinator
    (state_of c.args.self) (state_of c.loop-alloc.run) (state_of c.step.new.self) c.step.ensures.call c.step.ensures.ended c.loop-alloc.invariant

pub returns : goal.returns
returns g c =
    let accepts = g.C.Checker.accepts c.args.coordinator.now.checker in
    came g.S.Store.view g.L.Link.view g.C.Checker.accepts Sound c.args.coordinator.now c.step.new.coordinator (state_of c.args.self) (state_of c.step.new.self)
    (λ (ask : Ask) (from : ViewChain) (events : List Event). (chain : ViewChain) × EntryEnded accepts ask from chain events (answer_of c.into_answer.result))
    (goes_on g.S.Store.view g.L.Link.view g.C.Checker.accepts Sound is_live c.args.coordinator.now c.loop-alloc.coordinator c.step.new.coordinator
    (state_of c.args.self) (state_of c.loop-alloc.run) (state_of c.step.new.self) c.step.ensures.call c.step.ensures.ended c.loop-alloc.invariant)
    (c.into_answer.ensures accepts)
