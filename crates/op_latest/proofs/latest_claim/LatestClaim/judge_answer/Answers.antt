use Rattle.std.proofs.Common.{sym, subst}
use Rattle.port.specs.declared.endorser_answer.EndorserAnswer.{EndorserAnswer}
use Rattle.port.specs.Answer.{answer_of}
use Rattle.port.specs.Heard.{Answered}
use Rattle.op_latest.specs.LatestVote.{vote_of}
use Rattle.op_latest.specs.LatestJudged.{IsVote}
use Rattle.op_latest.proofs.latest_claim.LatestClaim.judge_answer.Goals as goal

pub returns-in-Refused : goal.returns-in-Refused
returns-in-Refused g c =
    subst (λ (a : EndorserAnswer). IsVote (g.C.Checker.accepts c.args.checker.now) c.args.self.now c.args.member.now.key (Answered (answer_of a)) (vote_of c.judge_refusal.result))
    (sym c.in-Refused.is) (c.judge_refusal.ensures (g.C.Checker.accepts c.args.checker.now) c.args.member.now.key)
