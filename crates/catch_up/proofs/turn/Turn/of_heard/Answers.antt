use Rattle.std.proofs.Common.{sym, subst}
use Rattle.std.specs.Prelude.{Ok}
use Rattle.port.specs.declared.link_answer.LinkAnswer.{LinkAnswer}
use Rattle.port.specs.Heard.{heard_of}
use Rattle.port.specs.Trace.{AtLink}
use Rattle.catch_up.specs.Sound.{Takes}
use Rattle.catch_up.specs.Turn.{target}
use Rattle.catch_up.proofs.turn.Turn.of_heard.Goals as goal

pub returns-in-Answered : goal.returns-in-Answered
returns-in-Answered c = λ member handle call.
    subst (λ (h : LinkAnswer). Takes (target member handle c.args.wanted) c.args.height (AtLink member call (heard_of h)) c.of_answer.result.stage (Ok c.of_answer.result.progress))
    (sym c.in-Answered.is) (c.of_answer.ensures member handle call)
