use Rattle.std.proofs.Common.{List, subst}
use Rattle.std.specs.Prelude.{IfOk}
use Rattle.op_latest.specs.LatestState.{stage_of}
use Rattle.op_latest.specs.LatestSteps.{AsksNext}
use Rattle.op_latest.specs.LatestVote.{MemberVote}
use Rattle.op_latest.proofs.latest_steps.after_first.Goals as goal

pub returns-clause-next : goal.returns-clause-next
returns-clause-next c =
    subst (λ (v : List MemberVote). IfOk c.ask_next.result (λ stage. AsksNext c.args.claim.now c.args.chain.now v (stage_of stage))) c.in_ok-push.ensures.items c.ask_next.ensures.next
