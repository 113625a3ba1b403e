use Rattle.std.proofs.Common.{sym, ap, ◌∙◌, subst}
use Rattle.std.specs.Option.{option_map}
use Rattle.std.specs.Prelude.{IfSome, Option, Result}
use Rattle.port.specs.declared.refusal.Refusal.{Refusal}
use Rattle.port.specs.View.{ViewRow}
use Rattle.op_reconf.specs.Says.{Says}
use Rattle.op_reconf.specs.State.{State, is_live, answer_of}
use Rattle.coordinator.proofs.Beginning.{begins, begins_calm, came_to, ends, shows_cause}
use Rattle.coordinator.proofs.first.set_up.Goals as goal

pub loop-alloc-init : goal.loop-alloc-init
loop-alloc-init g c =
    let accepts = g.C.Checker.accepts c.args.checker.now in
    begins accepts g.S.Store.view g.L.Link.view c.args.chain c.args.store.now c.args.link.now c.genesis-op.result (c.genesis-op.ensures.sound accepts)
    (ap (λ (state : State). is_live state) c.genesis-op.ensures.view)

pub returns : goal.returns
returns g c =
    let accepts = g.C.Checker.accepts c.args.checker.now in
    let tells = c.into_parts-chain.ensures in
    let from = c.args.chain in
    ends accepts g.S.Store.view g.L.Link.view from c.args.store.now c.loop-alloc.store c.step.new.store c.args.link.now c.loop-alloc.link c.step.new.link c.loop-alloc.op c.step.new.self
    c.into_parts-chain.result.0 (answer_of c.in-Some.answer) c.loop-alloc.invariant c.step.ensures.call
    (λ past sound.
    let told = tells.calls accepts from past sound in
    (told.0, told.1, subst (λ (o : Option (Result ViewRow Refusal)). IfSome o (λ answer. Says from past (answer_of answer))) c.in-Some.is told.2))
    (λ past sound same. came_to accepts from c.into_parts-chain.result.0 c.step.new.self past (answer_of c.in-Some.answer) same (sym tells.answer ∙ ap (option_map answer_of) c.in-Some.is) sound)
    (λ past sound. shows_cause c.first_refusals_are_shown.ensures accepts from c.step.new.self past c.in-Some.answer (sym tells.answer ∙ ap (option_map answer_of) c.in-Some.is) sound)
    (λ past sound. begins_calm c.first_views_begin_calm.ensures accepts from c.step.new.self past (answer_of c.in-Some.answer) (sym tells.answer ∙ ap (option_map answer_of) c.in-Some.is) sound)
