use Rattle.std.proofs.Common.{◌≡◌, List, Ok, IfOk, refl, sym, subst}
use Rattle.std.specs.Result.{result_err}
use Rattle.view_ledger.specs.Views.{ViewChain}
use Rattle.verifier.specs.Outcomes.{latest_outcome}
use Rattle.client_pass.specs.Act.{Line, Latest}
use Rattle.client_pass.specs.Answers.{IfReplyNoted}
use Rattle.client_pass.specs.ClientList.{IsForRead}
use Rattle.reply_taking.proofs.Growing.{grows_again, reply_grows, reply_keeps_chain}
use Rattle.reply_taking.proofs.Noting.{noted_after, unnoted_after}
use Rattle.reply_taking.proofs.taking.take_latest.Goals as goal

pub take_latest-requires-clause-own_draw : goal.take_latest-requires-clause-own_draw
take_latest-requires-clause-own_draw g c =
    let drawn = c.requires.own_draw in
    let stays = c.draws_stay.ensures.read c.args.pass.now.lines c.learn.ensures.grows.more c.args.draw drawn.0 drawn.1 in
    (drawn.0, subst (λ (lines : List Line). IsForRead lines c.args.draw drawn.0) (sym c.learn.ensures.grows.lines) stays)

pub returns-clause-grows : goal.returns-clause-grows
returns-clause-grows g c =
    grows_again c.args.pass.now c.learn.new.pass c.take_latest.new.self c.learn.ensures.grows
    (reply_grows c.learn.new.pass c.take_latest.new.self (Latest c.args.draw c.args.handle.now c.args.reply.now) c.take_latest.result c.take_latest.ensures.noted c.take_latest.ensures.same)

pub returns-clause-outcome : goal.returns-clause-outcome
returns-clause-outcome g c = λ nonce is_for.
    let grows = c.learn.ensures.grows in
    let stays = c.draws_stay.ensures.read c.args.pass.now.lines grows.more c.args.draw nonce is_for in
    let said = c.take_latest.ensures.outcome nonce (subst (λ (lines : List Line). IsForRead lines c.args.draw nonce) (sym grows.lines) stays) in
    let chain = reply_keeps_chain c.learn.new.pass c.take_latest.new.self (Latest c.args.draw c.args.handle.now c.args.reply.now) c.take_latest.result (λ fault. refl) c.take_latest.ensures.noted c.take_latest.ensures.same in
    let by_chain = subst (λ (chain : ViewChain). IfReplyNoted c.take_latest.result (λ fault. fault ≡ result_err (latest_outcome (g.C.Checker.accepts c.learn.new.pass.checker) chain.configs c.args.handle.now nonce c.args.reply.now))) (sym chain) said in
    subst (λ checker. IfReplyNoted c.take_latest.result (λ fault. fault ≡ result_err (latest_outcome (g.C.Checker.accepts checker) c.take_latest.new.self.chain.configs c.args.handle.now nonce c.args.reply.now))) grows.checker by_chain

pub returns-clause-count : goal.returns-clause-count
returns-clause-count g c = λ nonce is_for.
    let grows = c.learn.ensures.grows in
    let stays = c.draws_stay.ensures.read c.args.pass.now.lines grows.more c.args.draw nonce is_for in
    let said = c.take_latest.ensures.count nonce (subst (λ (lines : List Line). IsForRead lines c.args.draw nonce) (sym grows.lines) stays) in
    let chain = reply_keeps_chain c.learn.new.pass c.take_latest.new.self (Latest c.args.draw c.args.handle.now c.args.reply.now) c.take_latest.result (λ fault. refl) c.take_latest.ensures.noted c.take_latest.ensures.same in
    let by_chain = subst (λ (chain : ViewChain). IfOk c.take_latest.result (λ count. latest_outcome (g.C.Checker.accepts c.learn.new.pass.checker) chain.configs c.args.handle.now nonce c.args.reply.now ≡ Ok count)) (sym chain) said in
    subst (λ checker. IfOk c.take_latest.result (λ count. latest_outcome (g.C.Checker.accepts checker) c.take_latest.new.self.chain.configs c.args.handle.now nonce c.args.reply.now ≡ Ok count)) grows.checker by_chain

pub returns-clause-noted : goal.returns-clause-noted
returns-clause-noted g c =
    noted_after c.args.pass.now c.learn.new.pass c.take_latest.new.self (Latest c.args.draw c.args.handle.now c.args.reply.now) c.learn.ensures.views c.take_latest.result c.take_latest.ensures.noted

pub returns-clause-unnoted : goal.returns-clause-unnoted
returns-clause-unnoted g c =
    unnoted_after c.args.pass.now c.learn.new.pass c.take_latest.new.self (Latest c.args.draw c.args.handle.now c.args.reply.now) c.learn.ensures.views c.take_latest.result c.take_latest.ensures.same
