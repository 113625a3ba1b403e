use Rattle.std.proofs.Common.{◌≡◌, Option, Some, None, sym, ap, subst, ◌∙◌}
use Rattle.std.specs.Prelude.{IfOk, MatchOption}
use Rattle.view_ledger.specs.Views.{newest_config}
use Rattle.op_latest.specs.declared.latest_head.LatestHead.{LatestHead}
use Rattle.op_latest.specs.LatestState.{stage_of}
use Rattle.op_latest.specs.LatestSteps.{Proceeds, concluded}
use Rattle.op_latest.specs.LatestVote.{quorum_head, target}
use Rattle.op_latest.proofs.latest_steps.decide.Goals as goal

pub returns-in-Some-clause-decides : goal.returns-in-Some-clause-decides
returns-in-Some-clause-decides c =
    let claim = c.args.claim.now in
    let chain = c.args.chain.now in
    let votes = c.args.votes.items in
    let e : quorum_head (newest_config chain.configs) votes ≡ Some c.in-Some.head =
    ap (quorum_head (newest_config chain.configs)) (sym c.deref.ensures.value) ∙ sym c.head_of_quorum.ensures ∙ c.in-Some.is in
    subst (λ (o : Option LatestHead). IfOk c.conclude.result (λ stage. MatchOption o (Proceeds claim chain (target votes) votes 0 (stage_of stage)) (λ head. stage_of stage ≡ concluded claim chain head votes)))
    (sym e) c.conclude.ensures.concludes

pub returns-in-None-clause-decides : goal.returns-in-None-clause-decides
returns-in-None-clause-decides c =
    let claim = c.args.claim.now in
    let chain = c.args.chain.now in
    let votes = c.args.votes.items in
    let e : quorum_head (newest_config chain.configs) votes ≡ None =
    ap (quorum_head (newest_config chain.configs)) (sym c.deref.ensures.value) ∙ sym c.head_of_quorum.ensures ∙ c.in-None.is in
    let same : c.target-head.result ≡ target votes = c.target-head.ensures ∙ ap target c.deref-in-None.ensures.value in
    subst (λ (o : Option LatestHead). IfOk c.proceed.result (λ stage. MatchOption o (Proceeds claim chain (target votes) votes 0 (stage_of stage)) (λ head. stage_of stage ≡ concluded claim chain head votes)))
    (sym e)
    (subst (λ (h : LatestHead). IfOk c.proceed.result (λ stage. Proceeds claim chain h votes 0 (stage_of stage))) same c.proceed.ensures.proceeds)
