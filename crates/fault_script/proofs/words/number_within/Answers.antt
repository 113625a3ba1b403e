use Rattle.std.proofs.Common.{sym, ◌∙◌}
use Rattle.fault_script.proofs.Numbers.{none_too_long, none_other}
use Rattle.fault_script.proofs.words.number_within.Goals as goal
use Rattle.fault_script.proofs.words.number_within.Goals.{else-is_number-via-then-is_number+else-word-le10, else-is_number-via-else-is_number}

pub returns-else-is_number-clause-number : goal.returns-else-is_number-clause-number
returns-else-is_number-clause-number c =
    elim c.else-is_number.branch [
      | else-is_number-via-then-is_number+else-word-le10 w ↦ sym (none_too_long c.args.low c.args.high c.args.word.now c.requires (sym c.is_number.ensures ∙ w.if-is_number.true) w.if-word-le10.false)
      | else-is_number-via-else-is_number w ↦ sym (none_other c.args.low c.args.high c.args.word.now (sym c.is_number.ensures ∙ w.if-is_number.false))
    ]
