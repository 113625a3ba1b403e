use Rattle.std.proofs.Common.{refl, sym, ap, subst, ◌∙◌}
use Rattle.port.specs.declared.key.Key.TheVariants as keys
use Rattle.port.specs.Call.{Latest}
use Rattle.port.specs.Link.{LinkStep}
use Rattle.port.specs.Store.{StoreStep, Get, WasGot}
use Rattle.port.specs.Trace.{AtStore, AtLink}
use Rattle.op_parts.specs.RefreshSound.{key_of}
use Rattle.op_latest.specs.LatestState.{Stage, State, IsReady, stage_of}
use Rattle.op_latest.proofs.LatestStepping.{leads_first, leads_again, leads_catching_up, leads_row, leads_refresh}
use Rattle.op_latest.proofs.latest_op.LatestOp.step.Goals as goal

pub returns-in-Refresh-clause-call : goal.returns-in-Refresh-clause-call
returns-in-Refresh-clause-call g c = λ live.
    let call = c.refresh.ensures.call in (
      AtStore (Get (key_of c.in-Refresh.refresh c.args.self.now.chain)) (WasGot call.0),
      (
        c.args.store.now,
        c.args.link.now,
        (refl, refl),
        (
          subst (λ (s : State). StoreStep g.S.Store.view c.args.store.now c.refresh.new.store (Get (key_of c.in-Refresh.refresh s.chain)) (WasGot call.0)) c.self.view_is call.3,
          refl {a = c.args.link.now},
        ),
      ),
      leads_refresh c.answers_are_shown.ensures.reached c.answers_are_shown.ensures.ahead c.answers_are_shown.ensures.member (g.C.Checker.accepts c.args.checker.now) _ c.args.self.now c.refresh.new.self c.self.view_is (stage_of c.replace.new.dest) (ap stage_of c.replace.ensures.after)
          c.in-Refresh.refresh call.1 call.0 call.2 (ap stage_of (sym c.replace.ensures.value ∙ c.in-Refresh.is)) call.4 call.5 call.6 call.7,
    )

pub returns-in-First-clause-call : goal.returns-in-First-clause-call
returns-in-First-clause-call g c = λ live.
    let call = c.ask_first.ensures.call in
    let is = ap stage_of (sym c.replace.ensures.value ∙ c.in-First.is) in
    let ready = subst (λ (s : Stage). IsReady c.self.inside.chain s) is c.self.invariant in (
      AtLink call.0.id (Latest c.args.self.now.handle c.args.self.now.nonce) call.1,
      (
        c.args.store.now,
        c.args.link.now,
        (refl, refl),
        (
          subst (λ (s : State). LinkStep g.L.Link.view c.args.link.now c.ask_first.new.link call.0.id (Latest s.handle s.nonce) call.1) c.self.view_is call.3,
          refl {a = c.args.store.now},
        ),
      ),
      leads_first c.answers_are_shown.ensures.reached c.answers_are_shown.ensures.ahead c.answers_are_shown.ensures.member (g.C.Checker.accepts c.args.checker.now) _ c.args.self.now c.ask_first.new.self c.self.view_is (stage_of c.replace.new.dest) (ap stage_of c.replace.ensures.after)
          c.in-First.votes.items call.0 call.1 is c.ask_first.ensures.config ready call.2 call.4,
    )

pub returns-in-CatchUp-clause-call : goal.returns-in-CatchUp-clause-call
returns-in-CatchUp-clause-call g c = λ live.
    let call = c.catch_up.ensures.call in (
      call.1,
      call.5,
      leads_catching_up c.answers_are_shown.ensures.reached c.answers_are_shown.ensures.ahead c.answers_are_shown.ensures.member (g.C.Checker.accepts c.args.checker.now) _ c.args.self.now c.catch_up.new.self c.self.view_is (stage_of c.replace.new.dest) (ap stage_of c.replace.ensures.after)
          c.in-CatchUp.second call.0 call.1 c.in-CatchUp.catch_up call.2 call.3 (ap stage_of (sym c.replace.ensures.value ∙ c.in-CatchUp.is)) c.catch_up.ensures.config call.4 call.6 call.7,
    )

pub returns-in-Again-clause-call : goal.returns-in-Again-clause-call
returns-in-Again-clause-call g c = λ live.
    let call = c.ask_again.ensures.call in (
      AtLink call.0.id (Latest c.args.self.now.handle c.args.self.now.nonce) call.1,
      (
        c.args.store.now,
        c.args.link.now,
        (refl, refl),
        (
          subst (λ (s : State). LinkStep g.L.Link.view c.args.link.now c.ask_again.new.link call.0.id (Latest s.handle s.nonce) call.1) c.self.view_is call.3,
          refl {a = c.args.store.now},
        ),
      ),
      leads_again c.answers_are_shown.ensures.reached c.answers_are_shown.ensures.ahead c.answers_are_shown.ensures.member (g.C.Checker.accepts c.args.checker.now) _ c.args.self.now c.ask_again.new.self c.self.view_is (stage_of c.replace.new.dest) (ap stage_of c.replace.ensures.after)
          c.in-Again.second call.0 call.1 (ap stage_of (sym c.replace.ensures.value ∙ c.in-Again.is)) c.ask_again.ensures.config call.2 call.4,
    )

pub returns-in-Row-clause-call : goal.returns-in-Row-clause-call
returns-in-Row-clause-call g c = λ live.
    let call = c.get_row.ensures.call in (
      AtStore (Get (keys.Row c.args.self.now.handle call.0)) (WasGot call.1),
      (
        c.args.store.now,
        c.args.link.now,
        (refl, refl),
        (
          subst (λ (s : State). StoreStep g.S.Store.view c.args.store.now c.get_row.new.store (Get (keys.Row s.handle call.0)) (WasGot call.1)) c.self.view_is call.4,
          refl {a = c.args.link.now},
        ),
      ),
      leads_row c.answers_are_shown.ensures.reached c.answers_are_shown.ensures.ahead c.answers_are_shown.ensures.member (g.C.Checker.accepts c.args.checker.now) _ c.args.self.now c.get_row.new.self c.self.view_is (stage_of c.replace.new.dest) (ap stage_of c.replace.ensures.after)
          c.in-Row.head c.in-Row.receipt call.0 call.1 call.2 (ap stage_of (sym c.replace.ensures.value ∙ c.in-Row.is)) call.3 call.5 call.6,
    )
