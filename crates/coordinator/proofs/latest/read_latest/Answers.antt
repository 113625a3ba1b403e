use Rattle.std.proofs.Common.{◌≡◌, true, List, subst}
use Rattle.std.specs.Prelude.{IfSome, MatchOption, Option, Result}
use Rattle.port.specs.declared.refusal.Refusal.{Refusal}
use Rattle.port.specs.Reply.{LatestReply}
use Rattle.op_latest.specs.LatestAsked.{LatestAsk}
use Rattle.op_latest.specs.LatestSays.{LatestSays}
use Rattle.op_latest.specs.LatestState.{Ended, is_live, outcome_of}
use Rattle.coordinator.proofs.Reading.{begins, calmly, came_to, ends}
use Rattle.coordinator.proofs.latest.read_latest.Goals as goal

pub loop-alloc-init : goal.loop-alloc-init
loop-alloc-init g c =
    let accepts = g.C.Checker.accepts c.args.checker.now in
    begins accepts g.S.Store.view g.L.Link.view (record { handle = c.args.handle; nonce = c.args.nonce }) c.args.chain c.args.store.now c.args.link.now c.new-op.result (c.new-op.ensures.sound accepts) c.new-op.ensures.live

pub returns : goal.returns
returns g c =
    let accepts = g.C.Checker.accepts c.args.checker.now in
    let ask : LatestAsk = record { handle = c.args.handle; nonce = c.args.nonce } in
    let tells = c.into_parts-chain.ensures in
    let chain = c.into_parts-chain.result.0 in
    let ended = subst (λ (o : Option (Result LatestReply Refusal)). MatchOption o (is_live c.step.new.self ≡ true) (λ answer. c.step.new.self.stage ≡ Ended (outcome_of answer))) c.in-Some.is tells.answer in
    ends accepts g.S.Store.view g.L.Link.view ask c.args.chain c.args.store.now c.loop-alloc.store c.step.new.store c.args.link.now c.loop-alloc.link c.step.new.link c.loop-alloc.op c.step.new.self
    chain (outcome_of c.in-Some.answer) c.loop-alloc.invariant c.step.ensures.call
    (record {
      own = tells.own accepts ask c.args.chain;
      grown = tells.grown accepts ask c.args.chain;
      says = λ past sound. subst (λ (o : Option (Result LatestReply Refusal)). IfSome o (λ answer. LatestSays accepts ask chain past (outcome_of answer))) c.in-Some.is (tells.says accepts ask c.args.chain past sound);
      came = λ past sound. came_to accepts g.S.Store.view g.L.Link.view ask c.args.chain c.step.new.self chain past (outcome_of c.in-Some.answer) tells.chain sound ended;
      calm = λ past sound.
          calmly accepts g.S.Store.view g.L.Link.view ask c.args.chain (record { answer = c.calm_services_answer_latest.ensures.answer; front = c.calm_services_answer_latest.ensures.front })
          c.step.new.self chain past (outcome_of c.in-Some.answer) tells.chain sound ended;
    })
