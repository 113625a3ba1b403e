use Rattle.std.proofs.Common.{◌≡◌, ℕ, List, Option, Some, Err, inr, refl, sym, ap, ◌∙◌, subst}
use Rattle.std.specs.Prelude.{IfSome, Vec}
use Rattle.port.specs.declared.refusal.Refusal.{Refusal}
use Rattle.port.specs.declared.store_answers.Got.TheVariants as gots
use Rattle.port.specs.Cause.{cause_of}
use Rattle.port.specs.View.{FinalMap, FinalMark}
use Rattle.view_ledger.specs.Extension.{extend_outcome}
use Rattle.view_ledger.specs.Numbered.{chain_below, row_at}
use Rattle.op_parts.specs.Refresh.{ReadsAsFinals, marks_of}
use Rattle.op_entry.specs.Refusal.{OrMemory}
use Rattle.coordinator.specs.ViewsGot.{IsFinalsRefused, finals_event}
use Rattle.coordinator.proofs.views_got.row_by.Goals as goal

pub returns-in-Some-finals_fault : goal.returns-in-Some-finals_fault
returns-in-Some-finals_fault g c stored same =
    let accepts = g.C.Checker.accepts c.args.checker.now in
    let chain = c.args.chain.now in
    let n = c.args.number in
    let good = subst (λ (o : Option (Vec FinalMark _)). IfSome o (λ marks. (maps : List FinalMap) × ReadsAsFinals c.bytes-2.result.now maps × (marks.items ≡ marks_of maps))) c.in-Some.is c.in-Ok.ensures.good in
    let fault = c.in-Some-finals_fault.field-0 in
    let refused = (c.finals_fault.ensures.fault fault).0 c.in-Some-finals_fault.is in
    let marks = c.as_slice.ensures.value ∙ good.2 in
    subst (λ (refusal : Refusal). OrMemory (IsFinalsRefused accepts chain n (finals_event n (gots.Some stored))) (cause_of refusal)) (sym c.bad_finals-in-Some-finals_fault.ensures) (
      refl,
      inr (record {
        given = (stored, refl, same);
        maps = good.0;
        finals = subst (λ (bytes : List ℕ). ReadsAsFinals bytes good.0) c.bytes-2.ensures good.1;
        fault = fault;
        refused = subst (λ (finals : List FinalMark). extend_outcome accepts (chain_below chain n) (row_at chain.configs n finals) ≡ Err fault) marks refused;
      }),
    )
