use Rattle.std.proofs.Common.{◌≡◌, List, refl, sym, subst}
use Rattle.view_ledger.specs.Views.{ViewChain}
use Rattle.verifier.specs.Outcomes.{append_outcome}
use Rattle.client_pass.specs.Act.{Line, Append}
use Rattle.client_pass.specs.Answers.{IfReplyNoted}
use Rattle.client_pass.specs.ClientList.{IsForEntry}
use Rattle.reply_taking.proofs.Growing.{grows_again, reply_grows, reply_keeps_chain}
use Rattle.reply_taking.proofs.Noting.{noted_after, unnoted_after}
use Rattle.reply_taking.proofs.taking.take_own.Goals as goal

pub take_append-requires-clause-own_draw : goal.take_append-requires-clause-own_draw
take_append-requires-clause-own_draw g c =
    let drawn = c.requires.own_draw in
    let stays = c.draws_stay.ensures.entry c.args.pass.now.lines c.learn.ensures.grows.more c.args.draw drawn.0 drawn.1 in
    (drawn.0, subst (λ (lines : List Line). IsForEntry lines c.args.draw drawn.0) (sym c.learn.ensures.grows.lines) stays)

pub returns-clause-grows : goal.returns-clause-grows
returns-clause-grows g c =
    grows_again c.args.pass.now c.learn.new.pass c.take_append.new.self c.learn.ensures.grows
    (reply_grows c.learn.new.pass c.take_append.new.self (Append c.args.draw c.args.reply.now) c.take_append.result c.take_append.ensures.noted c.take_append.ensures.same)

pub returns-clause-outcome : goal.returns-clause-outcome
returns-clause-outcome g c = λ entry is_for.
    let grows = c.learn.ensures.grows in
    let stays = c.draws_stay.ensures.entry c.args.pass.now.lines grows.more c.args.draw entry is_for in
    let said = c.take_append.ensures.outcome entry (subst (λ (lines : List Line). IsForEntry lines c.args.draw entry) (sym grows.lines) stays) in
    let chain = reply_keeps_chain c.learn.new.pass c.take_append.new.self (Append c.args.draw c.args.reply.now) c.take_append.result (λ fault. refl) c.take_append.ensures.noted c.take_append.ensures.same in
    let by_chain = subst (λ (chain : ViewChain). IfReplyNoted c.take_append.result (λ fault. fault ≡ append_outcome (g.C.Checker.accepts c.learn.new.pass.checker) chain.configs entry c.args.reply.now)) (sym chain) said in
    subst (λ checker. IfReplyNoted c.take_append.result (λ fault. fault ≡ append_outcome (g.C.Checker.accepts checker) c.take_append.new.self.chain.configs entry c.args.reply.now)) grows.checker by_chain

pub returns-clause-noted : goal.returns-clause-noted
returns-clause-noted g c =
    noted_after c.args.pass.now c.learn.new.pass c.take_append.new.self (Append c.args.draw c.args.reply.now) c.learn.ensures.views c.take_append.result c.take_append.ensures.noted

pub returns-clause-unnoted : goal.returns-clause-unnoted
returns-clause-unnoted g c =
    unnoted_after c.args.pass.now c.learn.new.pass c.take_append.new.self (Append c.args.draw c.args.reply.now) c.learn.ensures.views c.take_append.result c.take_append.ensures.same
