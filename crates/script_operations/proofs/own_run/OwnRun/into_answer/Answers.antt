use Rattle.std.proofs.Common.{[], sym, subst}
use Rattle.op_entry.specs.State.{answer_of}
use Rattle.view_ledger.specs.Receipts.{Accepts}
use Rattle.script_operations.specs.declared.own_run.OwnRun.{OwnRun}
use Rattle.script_operations.specs.Ending.{EndsEntry}
use Rattle.script_operations.specs.Operations.{state_of}
use Rattle.script_operations.proofs.Ended.{entry_ends}
use Rattle.script_operations.proofs.own_run.OwnRun.into_answer.Goals as goal

pub returns-in-Some : goal.returns-in-Some
returns-in-Some c =
    let tells = c.into_parts-answer.ensures in
    subst (λ (run : OwnRun). (accepts : Accepts) → EndsEntry accepts (state_of run) [] (answer_of c.in-Some.answer)) (sym c.in-New.is)
    (λ accepts. entry_ends accepts c.in-New.op c.into_parts-answer.result.1 c.in-Some.answer c.in-Some.is tells.answer tells.own tells.grown tells.says)

pub returns-in-Some-answer : goal.returns-in-Some-answer
returns-in-Some-answer c =
    let tells = c.into_parts-answer-in-Append.ensures in
    subst (λ (run : OwnRun). (accepts : Accepts) → EndsEntry accepts (state_of run) [] (answer_of c.in-Some-answer.answer)) (sym c.in-Append.is)
    (λ accepts. entry_ends accepts c.in-Append.op c.into_parts-answer-in-Append.result.1 c.in-Some-answer.answer c.in-Some-answer.is tells.answer tells.own tells.grown tells.says)
