use Rattle.std.proofs.Common.{ap, arith}
use Rattle.std.proofs.lemmas.List.{length_push}
use Rattle.std.proofs.lemmas.Result.{err_from_is_err_and}
use Rattle.port.specs.FinalsForm.{id_of}
use Rattle.port.proofs.Steps.{among_missed, stands_more}
use Rattle.port.proofs.finals_reading.read_each.Goals as goal

pub returns-in_err-ended : goal.returns-in_err-ended
returns-in_err-ended c =
    let p = err_from_is_err_and c.from_residual-in_err-ended.result c.from_residual-in_err-ended.ensures.1 in
    let inv = c.loop.invariant in
    rw (p.1, p.2) (λ fits. among_missed c.args.cursor.now c.loop.cursor c.loop.finals.items c.loop.before fits (inv.1 fits) c.args.number c.in_err-ended.field-0.0 (omega (arith, inv.0, c.loop-test.true)) c.in_err-ended.ensures)

pub loop-preserved : goal.loop-preserved
loop-preserved c =
    let finals = c.loop.finals.items in
    let ended = c.in_ok-ended.ended in
    let inv = c.loop.invariant in
    rw (c.in_ok-push.ensures.items, ap id_of c.ended.view_is) (omega (arith, length_push finals ended, inv.0), λ fits. stands_more c.args.cursor.now c.loop.cursor finals c.loop.before fits (inv.1 fits) ended c.read_final.new.cursor c.in_ok-ended.ensures)
