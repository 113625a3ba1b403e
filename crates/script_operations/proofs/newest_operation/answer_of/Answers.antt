use Rattle.std.specs.Prelude.{List}
use Rattle.port.specs.Trace.{Event}
use Rattle.view_ledger.specs.Views.{ViewChain}
use Rattle.op_latest.specs.LatestAsked.{LatestAsk}
use Rattle.op_latest.specs.LatestSound.{LatestSound}
use Rattle.op_latest.specs.LatestState.{outcome_of, is_live}
use Rattle.script_operations.specs.Ending.{LatestEnded}
use Rattle.script_operations.proofs.Ended.{latest_ends}
use Rattle.script_operations.proofs.Leading.{came, goes_nowhere, goes_on}
use Rattle.script_operations.proofs.newest_operation.answer_of.Goals as goal

pub loop-alloc-init : goal.loop-alloc-init
loop-alloc-init g c = goes_nowhere g.S.Store.view g.L.Link.view g.C.Checker.accepts LatestSound c.args.coordinator.now c.args.op

pub loop-alloc-preserved : goal.loop-alloc-preserved
loop-alloc-preserved g c =
    goes_on g.S.Store.view g.L.Link.view g.C.Checker.accepts LatestSound is_live c.args.coordinator.now c.loop-alloc.coordinator c.step_latest.new.self
    c.args.op c.loop-alloc.op c.step_latest.new.op c.step_latest.ensures.call c.step_latest.ensures.ended c.loop-alloc.invariant

pub returns : goal.returns
returns g c =
    let accepts = g.C.Checker.accepts c.args.coordinator.now.checker in
    let tells = c.into_parts-answer.ensures in
    came g.S.Store.view g.L.Link.view g.C.Checker.accepts LatestSound c.args.coordinator.now c.step_latest.new.self c.args.op c.step_latest.new.op
    (λ (ask : LatestAsk) (from : ViewChain) (events : List Event). (chain : ViewChain) × LatestEnded accepts ask from chain events (outcome_of c.in-Some.answer))
    (goes_on g.S.Store.view g.L.Link.view g.C.Checker.accepts LatestSound is_live c.args.coordinator.now c.loop-alloc.coordinator c.step_latest.new.self
    c.args.op c.loop-alloc.op c.step_latest.new.op c.step_latest.ensures.call c.step_latest.ensures.ended c.loop-alloc.invariant)
    (latest_ends accepts c.step_latest.new.op c.into_parts-answer.result.0 c.into_parts-answer.result.1 c.in-Some.answer c.in-Some.is tells.chain tells.answer tells.own tells.grown tells.says)
