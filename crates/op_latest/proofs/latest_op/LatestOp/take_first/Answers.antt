use Rattle.std.proofs.Common.{◌≡◌, sym, ap, subst}
use Rattle.std.specs.Prelude.{Result, MatchResult, IfOk}
use Rattle.nim_base.specs.declared.no_memory.NoMemory.{NoMemory}
use Rattle.view_ledger.specs.Views.{ViewChain}
use Rattle.op_latest.specs.declared.latest_claim.LatestClaim.{LatestClaim}
use Rattle.op_latest.specs.declared.latest_vote.LatestVote.{LatestVote}
use Rattle.op_latest.specs.LatestState.{State, stage_of}
use Rattle.op_latest.specs.LatestSteps.{AsksNext, Goes, claim_of, with_vote}
use Rattle.op_latest.specs.LatestVote.{vote_of}
use Rattle.op_latest.proofs.LatestGoing.{goes_on}
use Rattle.op_latest.proofs.latest_op.LatestOp.take_first.Goals as goal

pub returns-clause-takes : goal.returns-clause-takes
returns-clause-takes c =
    let now = c.args.self.now in
    let new = c.take.new.self in
    subst (λ (r : Result LatestVote NoMemory). MatchResult r (λ v. Goes (AsksNext (claim_of now) now.chain (with_vote c.args.id (vote_of v) c.args.votes.items)) now new) (λ e. new ≡ now)) (sym c.in-Ok.is)
    (goes_on (AsksNext (claim_of now) now.chain (with_vote c.args.id (vote_of c.in-Ok.vote) c.args.votes.items)) now new c.after_first-stage.result
    (subst (λ (ch : ViewChain). IfOk c.after_first-stage.result (λ s. AsksNext (claim_of now) ch (with_vote c.args.id (vote_of c.in-Ok.vote) c.args.votes.items) (stage_of s))) (ap (λ (s : State). s.chain) c.self.view_is)
    (subst (λ (k : LatestClaim). IfOk c.after_first-stage.result (λ s. AsksNext k c.self.inside.chain (with_vote c.args.id (vote_of c.in-Ok.vote) c.args.votes.items) (stage_of s))) c.claim-claim.ensures c.after_first-stage.ensures.next))
    c.take.ensures.taken)
