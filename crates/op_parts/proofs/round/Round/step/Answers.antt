use Rattle.std.proofs.Common.{refl, sym, subst, ◌∙◌}
use Rattle.port.specs.Link.{LinkStep}
use Rattle.port.specs.Trace.{AtLink}
use Rattle.catch_up.specs.OwnCalls.{append_of}
use Rattle.view_ledger.specs.Views.{newest_tail, newest_config}
use Rattle.op_parts.specs.declared.round_stage.Stage.TheVariants as stages
use Rattle.op_parts.specs.RoundState.{State}
use Rattle.op_parts.proofs.RoundLeads.{IsTurnOf, turn_of, leads_first, leads_again, leads_catching_up, was_live, still_live, fewer_left}
use Rattle.op_parts.proofs.round.Round.step.Given.{Over}
use Rattle.op_parts.proofs.round.Round.step.Goals as goal

of-First : (g : Over) (c : goal.After-ask_first g) → IsTurnOf (newest_tail c.args.chain.now.configs) (newest_config c.args.chain.now.configs) c.self.inside.asked c.in-Some.turn
of-First g c = turn_of (newest_tail c.args.chain.now.configs) (newest_config c.args.chain.now.configs) c.self.inside.asked c.in-Some.turn (sym c.in-Some.is ∙ c.at.ensures)

pub returns-in-First-clause-call : goal.returns-in-First-clause-call
returns-in-First-clause-call g c = λ live.
    let call = c.ask_first.ensures.call in (
      AtLink c.in-Some.turn.member.id (append_of c.args.self.now.handle c.args.self.now.block) call.0,
      (
        c.args.store.now,
        c.args.link.now,
        (refl, refl),
        (
          subst (λ (s : State). LinkStep g.L.Link.view c.args.link.now c.ask_first.new.link c.in-Some.turn.member.id (append_of s.handle s.block) call.0) c.self.view_is call.1,
          refl {a = c.args.store.now},
        ),
      ),
      leads_first (newest_tail c.args.chain.now.configs) (newest_config c.args.chain.now.configs) c.in-Some.turn _ c.args.self.now c.ask_first.new.self c.self.view_is (of-First g c) c.ask_first.result (g.C.Checker.accepts c.args.checker.now) c.replace.new.dest c.replace.ensures.after call.0 (sym c.replace.ensures.value ∙ c.in-First.is) call.2,
    )

pub returns-in-First-clause-ended : goal.returns-in-First-clause-ended
returns-in-First-clause-ended g c = λ ended. absurd (was_live (newest_tail c.args.chain.now.configs) (newest_config c.args.chain.now.configs) c.in-Some.turn _ c.args.self.now c.ask_first.new.self c.self.view_is (of-First g c) c.ask_first.result stages.First (sym c.replace.ensures.value ∙ c.in-First.is) refl ended)

pub returns-in-First-clause-live : goal.returns-in-First-clause-live
returns-in-First-clause-live g c = still_live (newest_tail c.args.chain.now.configs) (newest_config c.args.chain.now.configs) c.self.inside.asked _ c.in-Some.turn c.ask_first.new.self c.ask_first.result (of-First g c) c.ask_first.ensures.moves

pub returns-in-First-clause-falls : goal.returns-in-First-clause-falls
returns-in-First-clause-falls g c = λ live. fewer_left (newest_tail c.args.chain.now.configs) (newest_config c.args.chain.now.configs) c.in-Some.turn _ c.args.self.now c.ask_first.new.self c.self.view_is (of-First g c) c.ask_first.result stages.First (sym c.replace.ensures.value ∙ c.in-First.is) c.ask_first.ensures.moves

of-CatchUp : (g : Over) (c : goal.After-catch_up g) → IsTurnOf (newest_tail c.args.chain.now.configs) (newest_config c.args.chain.now.configs) c.self.inside.asked c.in-Some.turn
of-CatchUp g c = turn_of (newest_tail c.args.chain.now.configs) (newest_config c.args.chain.now.configs) c.self.inside.asked c.in-Some.turn (sym c.in-Some.is ∙ c.at.ensures)

pub returns-in-CatchUp-clause-call : goal.returns-in-CatchUp-clause-call
returns-in-CatchUp-clause-call g c = λ live.
    let call = c.catch_up.ensures.call in (
      call.0,
      call.3,
      leads_catching_up (newest_tail c.args.chain.now.configs) (newest_config c.args.chain.now.configs) c.in-Some.turn _ c.args.self.now c.catch_up.new.self c.self.view_is (of-CatchUp g c) c.catch_up.result (g.C.Checker.accepts c.args.checker.now) c.replace.new.dest c.replace.ensures.after c.counts_are_told_on.ensures
          call.0 c.in-CatchUp.catch_up call.1 call.2 (sym c.replace.ensures.value ∙ c.in-CatchUp.is) call.4 call.5,
    )

pub returns-in-CatchUp-clause-ended : goal.returns-in-CatchUp-clause-ended
returns-in-CatchUp-clause-ended g c = λ ended. absurd (was_live (newest_tail c.args.chain.now.configs) (newest_config c.args.chain.now.configs) c.in-Some.turn _ c.args.self.now c.catch_up.new.self c.self.view_is (of-CatchUp g c) c.catch_up.result (stages.CatchUp c.in-CatchUp.catch_up) (sym c.replace.ensures.value ∙ c.in-CatchUp.is) refl ended)

pub returns-in-CatchUp-clause-live : goal.returns-in-CatchUp-clause-live
returns-in-CatchUp-clause-live g c = still_live (newest_tail c.args.chain.now.configs) (newest_config c.args.chain.now.configs) c.self.inside.asked _ c.in-Some.turn c.catch_up.new.self c.catch_up.result (of-CatchUp g c) c.catch_up.ensures.moves

pub returns-in-CatchUp-clause-falls : goal.returns-in-CatchUp-clause-falls
returns-in-CatchUp-clause-falls g c = λ live. fewer_left (newest_tail c.args.chain.now.configs) (newest_config c.args.chain.now.configs) c.in-Some.turn _ c.args.self.now c.catch_up.new.self c.self.view_is (of-CatchUp g c) c.catch_up.result (stages.CatchUp c.in-CatchUp.catch_up) (sym c.replace.ensures.value ∙ c.in-CatchUp.is) c.catch_up.ensures.moves

of-Again : (g : Over) (c : goal.After-ask_again g) → IsTurnOf (newest_tail c.args.chain.now.configs) (newest_config c.args.chain.now.configs) c.self.inside.asked c.in-Some.turn
of-Again g c = turn_of (newest_tail c.args.chain.now.configs) (newest_config c.args.chain.now.configs) c.self.inside.asked c.in-Some.turn (sym c.in-Some.is ∙ c.at.ensures)

pub returns-in-Again-clause-call : goal.returns-in-Again-clause-call
returns-in-Again-clause-call g c = λ live.
    let call = c.ask_again.ensures.call in (
      AtLink c.in-Some.turn.member.id (append_of c.args.self.now.handle c.args.self.now.block) call.0,
      (
        c.args.store.now,
        c.args.link.now,
        (refl, refl),
        (
          subst (λ (s : State). LinkStep g.L.Link.view c.args.link.now c.ask_again.new.link c.in-Some.turn.member.id (append_of s.handle s.block) call.0) c.self.view_is call.1,
          refl {a = c.args.store.now},
        ),
      ),
      leads_again (newest_tail c.args.chain.now.configs) (newest_config c.args.chain.now.configs) c.in-Some.turn _ c.args.self.now c.ask_again.new.self c.self.view_is (of-Again g c) c.ask_again.result (g.C.Checker.accepts c.args.checker.now) c.replace.new.dest c.replace.ensures.after call.0 (sym c.replace.ensures.value ∙ c.in-Again.is) call.2,
    )

pub returns-in-Again-clause-ended : goal.returns-in-Again-clause-ended
returns-in-Again-clause-ended g c = λ ended. absurd (was_live (newest_tail c.args.chain.now.configs) (newest_config c.args.chain.now.configs) c.in-Some.turn _ c.args.self.now c.ask_again.new.self c.self.view_is (of-Again g c) c.ask_again.result stages.Again (sym c.replace.ensures.value ∙ c.in-Again.is) refl ended)

pub returns-in-Again-clause-live : goal.returns-in-Again-clause-live
returns-in-Again-clause-live g c = still_live (newest_tail c.args.chain.now.configs) (newest_config c.args.chain.now.configs) c.self.inside.asked _ c.in-Some.turn c.ask_again.new.self c.ask_again.result (of-Again g c) c.ask_again.ensures.moves

pub returns-in-Again-clause-falls : goal.returns-in-Again-clause-falls
returns-in-Again-clause-falls g c = λ live. fewer_left (newest_tail c.args.chain.now.configs) (newest_config c.args.chain.now.configs) c.in-Some.turn _ c.args.self.now c.ask_again.new.self c.self.view_is (of-Again g c) c.ask_again.result stages.Again (sym c.replace.ensures.value ∙ c.in-Again.is) c.ask_again.ensures.moves
