use Rattle.std.proofs.Common.{◌≤◌, arith}
use Rattle.std.specs.Prelude.{IsFalse}
use Rattle.std.proofs.lemmas.Result.{err_from_is_err_and}
use Rattle.statement.specs.FormFault.{is_number}
use Rattle.port.proofs.Steps.{is_number_in, is_number_zero, is_number_above, number_missed, number_wrong, finals_read}
use Rattle.port.proofs.finals_reading.read_finals.Goals as goal
use Rattle.port.proofs.finals_reading.read_finals.Goals.{then-number-eq0-via-then-number-eq0, then-number-eq0-via-else-number-eq0+then-number-gt-MAX_FINALS}

pub returns-in_err-number : goal.returns-in_err-number
returns-in_err-number c =
    let p = err_from_is_err_and c.from_residual-in_err-number.result c.from_residual-in_err-number.ensures.1 in
    rw (p.1, p.2) (λ fits. number_missed c.args.cursor.now c.read_kind.new.cursor fits (c.in_ok-read_kind.ensures fits) c.in_err-number.field-0.0 c.in_err-number.ensures)

pub returns-then-number-eq0 : goal.returns-then-number-eq0
returns-then-number-eq0 c =
    let n = c.in_ok-number.number in
    let off : IsFalse (is_number n) =
    elim c.then-number-eq0.branch [
      | then-number-eq0-via-then-number-eq0 w ↦ is_number_zero n (omega (arith, w.if-number-eq0.true))
      | then-number-eq0-via-else-number-eq0+then-number-gt-MAX_FINALS w ↦ is_number_above n (omega (arith, w.if-number-gt-MAX_FINALS.true))
    ] in
    λ fits. number_wrong c.args.cursor.now c.read_kind.new.cursor fits (c.in_ok-read_kind.ensures fits) n c.read_byte.new.cursor c.in_ok-number.ensures off

pub returns : goal.returns
returns c =
    let n = c.in_ok-number.number in
    let some : 1 ≤ n = omega (arith, c.if-number-eq0.false) in
    let few : n ≤ 15 = omega (arith, c.if-number-gt-MAX_FINALS.false) in
    λ fits. finals_read c.args.cursor.now c.read_kind.new.cursor fits (c.in_ok-read_kind.ensures fits) n c.read_byte.new.cursor c.in_ok-number.ensures (is_number_in n some few) some few (λ finals. finals.items) c.read_each.new.cursor c.read_each.result c.read_each.ensures
