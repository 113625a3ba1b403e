use Rattle.std.proofs.Common.{◌≡◌, ◌-◌, List, ℕ, true, length, refl, sym, ◌∙◌, ap, subst}
use Rattle.port.specs.declared.key.Key.TheVariants.{Row as RowKey}
use Rattle.port.specs.Store.{Get, Attach, WasGot, WasAttached}
use Rattle.port.specs.Trace.{AtStore}
use Rattle.view_ledger.specs.Views.{newest_config}
use Rattle.op_parts.specs.RoundRefusal.{causes}
use Rattle.settle.specs.State.{State, Stage, AtRound, AtWalk, AtAttach, is_live_at, stage_of}
use Rattle.settle.specs.Turn.{TakesRound, TakesWalk}
use Rattle.settle.proofs.LowerLaws.{Laws}
use Rattle.settle.proofs.Stepping.{leads_round, leads_walk, leads_attach}
use Rattle.settle.proofs.settle.Settle.step.Goals as goal

pub returns-in-Round-clause-call : goal.returns-in-Round-clause-call
returns-in-Round-clause-call g c = λ live.
    let configs = c.args.chain.now.configs in
    let round = c.in-Round.round in
    let laws : Laws = record {
      marks = c.members_are_shown.ensures.marks;
      reasons = c.members_are_shown.ensures.reasons;
      each = c.members_are_shown.ensures.each;
      few = c.members_are_shown.ensures.few;
      accepted = c.members_are_shown.ensures.accepted;
      own = c.round_calls_are_own.ensures;
      heights = c.walks_link.ensures.heights;
      links = c.walks_link.ensures.links;
    } in
    let ledger : c.self.inside.handle ≡ c.args.self.now.handle = ap (λ (s : State). s.handle) c.self.view_is in
    let stage : c.args.self.now.stage ≡ AtRound round c.in-Round.top = ap (λ (s : State). s.stage) (sym c.self.view_is) ∙ ap stage_of (sym c.replace.ensures.value ∙ c.in-Round.is) in
    let call = c.ask.ensures.call (subst (λ (s : Stage). is_live_at (length (newest_config configs)) s ≡ true) stage live) in (
      call.0,
      call.3,
      leads_round laws (g.C.Checker.accepts c.args.checker.now) configs c.members.ensures.config c.args.self.now c.ask.new.self (c.ask.ensures.same ∙ ledger) c.ask.result
          (g.met.C.Checker.limits c.args.checker.now) round call.1 c.in-Round.top call.0 call.2 stage call.4 call.5
          (subst (λ (h : List ℕ). TakesRound configs h call.1 c.in-Round.top call.2 c.ask.new.self.stage c.ask.result) ledger call.6),
    )

pub returns-in-Walk-clause-call : goal.returns-in-Walk-clause-call
returns-in-Walk-clause-call g c = λ live.
    let configs = c.args.chain.now.configs in
    let walk = c.in-Walk.walk in
    let reasons = causes c.in-Walk.reasons.items in
    let laws : Laws = record {
      marks = c.members_are_shown.ensures.marks;
      reasons = c.members_are_shown.ensures.reasons;
      each = c.members_are_shown.ensures.each;
      few = c.members_are_shown.ensures.few;
      accepted = c.members_are_shown.ensures.accepted;
      own = c.round_calls_are_own.ensures;
      heights = c.walks_link.ensures.heights;
      links = c.walks_link.ensures.links;
    } in
    let ledger : c.self.inside.handle ≡ c.args.self.now.handle = ap (λ (s : State). s.handle) c.self.view_is in
    let stage : c.args.self.now.stage ≡ AtWalk walk reasons = ap (λ (s : State). s.stage) (sym c.self.view_is) ∙ ap stage_of (sym c.replace.ensures.value ∙ c.in-Walk.is) in
    let call = c.go_up.ensures.call in (
      AtStore (Get (RowKey walk.handle walk.place.height)) (WasGot call.0),
      (c.args.store.now, c.args.link.now, (refl, refl), (call.3, refl {a = c.args.link.now})),
      leads_walk laws (g.C.Checker.accepts c.args.checker.now) configs c.members.ensures.config c.args.self.now c.go_up.new.self (c.go_up.ensures.same ∙ ledger) c.go_up.result
          walk call.1 reasons call.0 call.2 stage call.5 call.4
          (subst (λ (h : List ℕ). TakesWalk configs h call.1 reasons call.2 c.go_up.new.self.stage c.go_up.result) ledger call.6),
    )

pub returns-in-Attach-clause-call : goal.returns-in-Attach-clause-call
returns-in-Attach-clause-call g c = λ live.
    let configs = c.args.chain.now.configs in
    let receipt = c.in-Attach.receipt in
    let bytes : List ℕ = c.in-Attach.bytes.bytes in
    let top = c.in-Attach.top in
    let laws : Laws = record {
      marks = c.members_are_shown.ensures.marks;
      reasons = c.members_are_shown.ensures.reasons;
      each = c.members_are_shown.ensures.each;
      few = c.members_are_shown.ensures.few;
      accepted = c.members_are_shown.ensures.accepted;
      own = c.round_calls_are_own.ensures;
      heights = c.walks_link.ensures.heights;
      links = c.walks_link.ensures.links;
    } in
    let ledger : c.self.inside.handle ≡ c.args.self.now.handle = ap (λ (s : State). s.handle) c.self.view_is in
    let stage : c.args.self.now.stage ≡ AtAttach receipt bytes top = ap (λ (s : State). s.stage) (sym c.self.view_is) ∙ ap stage_of (sym c.replace.ensures.value ∙ c.in-Attach.is) in
    let call = c.attach.ensures.call in (
      AtStore (Attach (RowKey c.self.inside.handle (top.height - 1)) bytes) (WasAttached call.0),
      (c.args.store.now, c.args.link.now, (refl, refl), (call.1, refl {a = c.args.link.now})),
      leads_attach laws (g.C.Checker.accepts c.args.checker.now) configs c.members.ensures.config c.args.self.now c.attach.new.self (c.attach.ensures.same ∙ ledger) c.attach.result
          receipt bytes top call.0 c.self.inside.handle ledger stage call.2,
    )
