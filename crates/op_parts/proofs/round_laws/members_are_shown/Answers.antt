use Rattle.op_parts.proofs.RoundReceipt.{receipt_accepted}
use Rattle.op_parts.proofs.RoundShown.{all_marks_shown, all_reasons_shown}
use Rattle.op_parts.proofs.RoundParted.{parted, too_few}
use Rattle.op_parts.proofs.round_laws.members_are_shown.Goals as goal

pub returns-clause-marks : goal.returns-clause-marks
returns-clause-marks c = λ accepts ask state past sound. all_marks_shown accepts ask state past sound

pub returns-clause-reasons : goal.returns-clause-reasons
returns-clause-reasons c = λ accepts ask state past sound.
    all_reasons_shown accepts ask c.answers_are_shown.ensures.member c.answers_are_shown.ensures.ahead state past sound

pub returns-clause-each : goal.returns-clause-each
returns-clause-each c = λ accepts ask state past sound. parted accepts ask state.asked state.marks state.reasons sound.before sound.asked

pub returns-clause-few : goal.returns-clause-few
returns-clause-few c = λ accepts ask state past sound all less. too_few accepts ask state past sound all less

pub returns-clause-accepted : goal.returns-clause-accepted
returns-clause-accepted c = λ accepts ask state past sound config all enough. receipt_accepted accepts ask state past sound config all enough
