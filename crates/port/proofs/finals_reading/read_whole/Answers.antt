use Rattle.std.proofs.Common.{arith}
use Rattle.std.proofs.lemmas.Result.{err_from_is_err_and}
use Rattle.port.specs.FinalsForm.{IsFinals, finals_bytes, FinalsBegin}
use Rattle.port.proofs.Steps.{at_start, whole_missed}
use Rattle.port.proofs.finals_reading.read_whole.Goals as goal

pub returns-in_err-finals-clause-fault : goal.returns-in_err-finals-clause-fault
returns-in_err-finals-clause-fault c =
    let p = err_from_is_err_and c.from_residual.result c.from_residual.ensures.1 in
    let fits = at_start c.args.bytes.now c.new-cursor.result c.new-cursor.ensures (λ i. omega (arith, c.type_inv.bytes i)) in
    rw (p.1, p.2) (whole_missed IsFinals finals_bytes FinalsBegin c.args.bytes.now c.new-cursor.result c.in_err-finals.field-0.0 c.new-cursor.ensures (c.in_err-finals.ensures fits))
