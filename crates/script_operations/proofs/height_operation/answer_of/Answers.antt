use Rattle.std.specs.Prelude.{List}
use Rattle.port.specs.Trace.{Event}
use Rattle.view_ledger.specs.Views.{ViewChain}
use Rattle.op_entry.specs.Ask.{Ask}
use Rattle.op_entry.specs.Sound.{Sound}
use Rattle.op_entry.specs.State.{answer_of, is_live}
use Rattle.script_operations.specs.Ending.{EntryEnded}
use Rattle.script_operations.proofs.Ended.{entry_ends}
use Rattle.script_operations.proofs.Leading.{came, goes_nowhere, goes_on}
use Rattle.script_operations.proofs.height_operation.answer_of.Goals as goal

pub loop-alloc-init : goal.loop-alloc-init
loop-alloc-init g c = goes_nowhere g.S.Store.view g.L.Link.view g.C.Checker.accepts Sound c.args.coordinator.now c.args.op

pub loop-alloc-preserved : goal.loop-alloc-preserved
loop-alloc-preserved g c =
    goes_on g.S.Store.view g.L.Link.view g.C.Checker.accepts Sound is_live c.args.coordinator.now c.loop-alloc.coordinator c.step_at.new.self
    c.args.op c.loop-alloc.op c.step_at.new.op c.step_at.ensures.call c.step_at.ensures.ended c.loop-alloc.invariant

pub returns : goal.returns
returns g c =
    let accepts = g.C.Checker.accepts c.args.coordinator.now.checker in
    let tells = c.into_parts-answer.ensures in
    came g.S.Store.view g.L.Link.view g.C.Checker.accepts Sound c.args.coordinator.now c.step_at.new.self c.args.op c.step_at.new.op
    (λ (ask : Ask) (from : ViewChain) (events : List Event). (chain : ViewChain) × EntryEnded accepts ask from chain events (answer_of c.in-Some.answer))
    (goes_on g.S.Store.view g.L.Link.view g.C.Checker.accepts Sound is_live c.args.coordinator.now c.loop-alloc.coordinator c.step_at.new.self
    c.args.op c.loop-alloc.op c.step_at.new.op c.step_at.ensures.call c.step_at.ensures.ended c.loop-alloc.invariant)
    (entry_ends accepts c.step_at.new.op c.into_parts-answer.result.1 c.in-Some.answer c.in-Some.is tells.answer tells.own tells.grown tells.says)
