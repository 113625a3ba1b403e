use Rattle.port.specs.Cause.{member_cause_of, cause_of}
use Rattle.catch_up.proofs.Shown.{reached, member_shown, row_shown}
use Rattle.catch_up.proofs.laws.answers_are_shown.Goals as goal

pub returns-clause-reached : goal.returns-clause-reached
returns-clause-reached c = λ target height event past says. reached target height event past target.count says

pub returns-clause-member : goal.returns-clause-member
returns-clause-member c = λ target height event past reason says. member_shown target height event past (member_cause_of reason) says

pub returns-clause-row : goal.returns-clause-row
returns-clause-row c = λ target height event past refusal says. row_shown target.handle height event past (cause_of refusal) says
