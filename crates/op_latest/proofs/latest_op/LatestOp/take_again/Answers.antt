use Rattle.std.proofs.Common.{◌≡◌, sym, ap, subst}
use Rattle.std.specs.Prelude.{Result, MatchResult, IfOk}
use Rattle.nim_base.specs.declared.no_memory.NoMemory.{NoMemory}
use Rattle.view_ledger.specs.Views.{ViewChain}
use Rattle.op_latest.specs.declared.latest_claim.LatestClaim.{LatestClaim}
use Rattle.op_latest.specs.declared.latest_vote.LatestVote.{LatestVote}
use Rattle.op_latest.specs.LatestState.{State, stage_of}
use Rattle.op_latest.specs.LatestSteps.{Settles, Goes, claim_of}
use Rattle.op_latest.specs.LatestVote.{vote_of}
use Rattle.op_latest.proofs.LatestGoing.{goes_on}
use Rattle.op_latest.proofs.latest_op.LatestOp.take_again.Goals as goal

pub returns-clause-takes : goal.returns-clause-takes
returns-clause-takes c =
    let now = c.args.self.now in
    let new = c.take.new.self in
    subst (λ (r : Result LatestVote NoMemory). MatchResult r (λ v. Goes (Settles (claim_of now) now.chain c.args.second c.args.id (vote_of v)) now new) (λ e. new ≡ now)) (sym c.in-Ok.is)
    (goes_on (Settles (claim_of now) now.chain c.args.second c.args.id (vote_of c.in-Ok.vote)) now new c.end_turn-stage.result
    (subst (λ (ch : ViewChain). IfOk c.end_turn-stage.result (λ s. Settles (claim_of now) ch c.args.second c.args.id (vote_of c.in-Ok.vote) (stage_of s))) (ap (λ (s : State). s.chain) c.self.view_is)
    (subst (λ (k : LatestClaim). IfOk c.end_turn-stage.result (λ s. Settles k c.self.inside.chain c.args.second c.args.id (vote_of c.in-Ok.vote) (stage_of s))) c.claim-claim.ensures c.end_turn-stage.ensures.settles))
    c.take.ensures.taken)
