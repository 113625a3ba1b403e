use Rattle.std.proofs.Common.{◌+◌}
use Rattle.port.specs.Call.{Call}
use Rattle.port.specs.Heard.{Heard}
use Rattle.port.specs.Link.{Bank}
use Rattle.calm.specs.Answering.{ActiveMember, WasAsked}
use Rattle.calm.proofs.OneAnswer.{Asked}
use Rattle.calm.proofs.MemberAnswers.{append_signs, append_holds, append_refused, append_full, latest_signs, latest_same}
use Rattle.calm.proofs.answer_laws.active_members_answer.Goals as goal

asked : (m : ActiveMember) (call : Call) (heard : Heard) (after : Bank) → WasAsked m call heard after → Asked m.signs m.bank m.view m.config m.rows (m.left + 1) m.member call heard after
asked m call heard after was = record { able = m.able; went = was.went; faithful = was.faithful }

pub returns-clause-append_signs : goal.returns-clause-append_signs
returns-clause-append_signs c = λ m handle block heard after was next room. append_signs m.signs m.bank after m.view m.config m.rows m.left m.member handle block heard (asked m _ heard after was) next room

pub returns-clause-append_holds : goal.returns-clause-append_holds
returns-clause-append_holds c = λ m handle block heard after was next room. append_holds m.signs m.bank after m.view m.config m.rows m.left m.member handle block heard (asked m _ heard after was) next room

pub returns-clause-append_refused : goal.returns-clause-append_refused
returns-clause-append_refused c = λ m handle block heard after was next full. append_refused m.signs m.bank after m.view m.config m.rows m.left m.member handle block heard (asked m _ heard after was) next full

pub returns-clause-append_full : goal.returns-clause-append_full
returns-clause-append_full c = λ m handle block heard after was next full. append_full m.signs m.bank after m.view m.config m.rows m.left m.member handle block heard (asked m _ heard after was) next full

pub returns-clause-latest_signs : goal.returns-clause-latest_signs
returns-clause-latest_signs c = λ m handle nonce heard after was. latest_signs m.signs m.bank after m.view m.config m.rows m.left m.member handle nonce heard (asked m _ heard after was)

pub returns-clause-latest_same : goal.returns-clause-latest_same
returns-clause-latest_same c = λ m handle nonce heard after was. latest_same m.signs m.bank after m.view m.config m.rows m.left m.member handle nonce heard (asked m _ heard after was)
