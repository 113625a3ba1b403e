use Rattle.std.proofs.Common.{◌+◌, ◌-◌, ◌*◌, get_or, arith}
use Rattle.std.proofs.lemmas.List.Sums.{fold_more}
use Rattle.fault_script.proofs.Numbers.{digit_at, value_more, value_fits}
use Rattle.fault_script.proofs.words.value.Goals as goal

pub overflow_mul-value : goal.overflow_mul-value
overflow_mul-value c = omega (arith, value_fits c.loop-digit.value c.loop-digit.digit-index c.loop-digit.invariant.1 (omega arith))

pub overflow_add-value : goal.overflow_add-value
overflow_add-value c =
    let digit = digit_at c.args.word.now c.requires.digits c.loop-digit.digit-index (omega arith) in
    omega (arith, c.from.ensures, value_fits c.loop-digit.value c.loop-digit.digit-index c.loop-digit.invariant.1 (omega arith))

pub loop-digit-preserved : goal.loop-digit-preserved
loop-digit-preserved c =
    let digit = digit_at c.args.word.now c.requires.digits c.loop-digit.digit-index (omega arith) in
    let more = fold_more (λ n d. n * 10 + (d - 48)) 0 c.args.word.now c.loop-digit.digit-index 0 (omega arith) in
    (omega (arith, more, c.from.ensures), omega (arith, c.from.ensures, value_more c.loop-digit.value (get_or c.args.word.now c.loop-digit.digit-index 0) c.loop-digit.digit-index c.loop-digit.invariant.1 digit))
