use Rattle.std.proofs.Common.{arith}
use Rattle.std.proofs.lemmas.Result.{err_from_is_err_and}
use Rattle.port.specs.RowForm.{IsRow, row_bytes, RowBegins}
use Rattle.port.proofs.Steps.{at_start, whole_missed}
use Rattle.port.proofs.row_reading.read_whole.Goals as goal

pub returns-in_err-row-clause-fault : goal.returns-in_err-row-clause-fault
returns-in_err-row-clause-fault c =
    let p = err_from_is_err_and c.from_residual.result c.from_residual.ensures.1 in
    let fits = at_start c.args.bytes.now c.new-cursor.result c.new-cursor.ensures (λ i. omega (arith, c.type_inv.bytes i)) in
    rw (p.1, p.2) (whole_missed IsRow row_bytes RowBegins c.args.bytes.now c.new-cursor.result c.in_err-row.field-0.0 c.new-cursor.ensures (c.in_err-row.ensures fits))
