use Rattle.std.proofs.Common.{sym, subst}
use Rattle.std.specs.Prelude.{Ok}
use Rattle.port.specs.declared.endorser_answer.EndorserAnswer.{EndorserAnswer}
use Rattle.port.specs.Answer.{answer_of}
use Rattle.port.specs.Heard.{Answered}
use Rattle.port.specs.Trace.{AtLink}
use Rattle.catch_up.specs.Sound.{Takes}
use Rattle.catch_up.specs.Turn.{target}
use Rattle.catch_up.proofs.turn.Turn.of_answer.Goals as goal

pub returns-in-Refused : goal.returns-in-Refused
returns-in-Refused c = λ member handle call.
    subst (λ (a : EndorserAnswer). Takes (target member handle c.args.wanted) c.args.height (AtLink member call (Answered (answer_of a))) c.of_refusal.result.stage (Ok c.of_refusal.result.progress))
    (sym c.in-Refused.is) (c.of_refusal.ensures member handle call)
