use Rattle.std.proofs.Common.{sym, subst}
use Rattle.port.specs.declared.endorser_answer.EndorserAnswer.{EndorserAnswer}
use Rattle.port.specs.Answer.{answer_of}
use Rattle.port.specs.Heard.{Answered}
use Rattle.op_parts.specs.RoundOutcome.{IsOutcome, outcome_of}
use Rattle.op_parts.proofs.round_verdict.Claim.judge_answer.Goals as goal

pub returns-in-Refused : goal.returns-in-Refused
returns-in-Refused g c =
    subst (λ (a : EndorserAnswer). IsOutcome (g.C.Checker.accepts c.args.checker.now) c.args.self.now c.args.member.now.key (Answered (answer_of a)) (outcome_of c.judge_refusal.result))
    (sym c.in-Refused.is) (c.judge_refusal.ensures (g.C.Checker.accepts c.args.checker.now) c.args.member.now.key)
