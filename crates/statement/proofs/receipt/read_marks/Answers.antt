use Rattle.std.proofs.Common.{◌⊎◌, ◌≡◌, Err, inl, inr, None, ap}
use Rattle.std.proofs.lemmas.Result.{err_from_is_err_and}
use Rattle.nim_base.specs.declared.form_fault.FormFault.TheVariants.{NoMemory}
use Rattle.statement.specs.Mark.{id_of}
use Rattle.statement.specs.Reading.{each_at, mark_at}
use Rattle.statement.proofs.Loop.{goes_on, ends}
use Rattle.statement.proofs.receipt.read_marks.Goals as goal

pub returns-in_err-mark : goal.returns-in_err-mark
returns-in_err-mark c =
    let p = err_from_is_err_and c.from_residual-in_err-mark.result c.from_residual-in_err-mark.ensures.1 in
    let total = each_at mark_at id_of c.args.number None c.args.cursor.now in
    let fault = c.in_err-mark.field-0.0 in
    let shown : (fault ≡ NoMemory) ⊎ (total ≡ Err fault) =
    elim c.in_err-mark.ensures [
      | inl none ↦ inl none
      | inr read ↦ inr (ends mark_at id_of c.loop.marks.items c.args.number c.loop.counter c.loop.before c.loop.cursor total fault c.loop-test.true read c.loop.invariant)
    ] in
    rw (p.1, p.2) shown

pub loop-preserved : goal.loop-preserved
loop-preserved c =
    let total = each_at mark_at id_of c.args.number None c.args.cursor.now in
    rw (c.in_ok-push.ensures.items, ap id_of c.mark.view_is) (goes_on mark_at id_of c.loop.marks.items c.args.number c.loop.counter c.loop.before c.loop.cursor total c.in_ok-mark.mark c.read_mark.new.cursor c.loop-test.true c.in_ok-mark.ensures c.loop.invariant)
