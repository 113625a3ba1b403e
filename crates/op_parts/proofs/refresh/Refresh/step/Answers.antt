use Rattle.std.proofs.Common.{◌≡◌, ℕ, ◌<◌, List, length, sym, ap, subst, ◌∙◌}
use Rattle.port.specs.declared.key.Key.TheVariants as keys
use Rattle.port.specs.declared.store_answers.Got.{Got}
use Rattle.port.specs.Store.{StoreStep, Get, WasGot}
use Rattle.port.specs.Trace.{AtStore}
use Rattle.op_parts.specs.RefreshState.{RefreshState, AtView, AtFinals, calls_left, state_of}
use Rattle.op_parts.specs.RefreshTurn.{GoesAtFinals}
use Rattle.op_parts.specs.RefreshSound.{Goes, Leads, key_of}
use Rattle.op_parts.proofs.Refreshing.{view_falls, finals_lead}
use Rattle.op_parts.proofs.refresh.Refresh.step.Goals as goal

pub returns-in-View-clause-falls : goal.returns-in-View-clause-falls
returns-in-View-clause-falls g c live =
    let is : AtView ≡ c.args.self.now = ap state_of (sym c.in-View.is ∙ c.replace.ensures.value) ∙ c.self.view_is in
    let call = c.get_view.ensures.call in
    subst (λ (s : RefreshState). calls_left c.get_view.new.self c.args.chain.now < calls_left s c.args.chain.now) is
    (view_falls c.args.chain.now (length c.args.chain.now.configs) _ c.get_view.new.self c.get_view.result c.get_view.ensures.below call.2)

pub returns-in-Finals-clause-call : goal.returns-in-Finals-clause-call
returns-in-Finals-clause-call g c live =
    let accepts = g.C.Checker.accepts c.args.checker.now in
    let chain = c.args.chain.now in
    let body : List ℕ = c.in-Finals.body.bytes in
    let is : AtFinals body c.in-Finals.block c.in-Finals.config ≡ c.args.self.now = ap state_of (sym c.in-Finals.is ∙ c.replace.ensures.value) ∙ c.self.view_is in
    let call = c.get_finals.ensures in
    let got : Got = call.0 in
    let step = subst (λ (n : ℕ). StoreStep g.S.Store.view c.args.store.now c.get_finals.new.store (Get (keys.Finals n)) (WasGot got)) c.number.ensures.number call.1 in
    let goes = subst (λ (n : ℕ). GoesAtFinals accepts chain body c.in-Finals.block c.in-Finals.config (AtStore (Get (keys.Finals n)) (WasGot got)) c.get_finals.new.chain c.get_finals.new.self c.get_finals.result) c.number.ensures.number call.2 in
    let lead = finals_lead accepts chain body c.in-Finals.block c.in-Finals.config got c.get_finals.new.chain c.get_finals.new.self c.get_finals.result goes in
    subst (λ (s : RefreshState). (x : Got) × StoreStep g.S.Store.view c.args.store.now c.get_finals.new.store (Get (key_of s chain)) (WasGot x)
    × Goes accepts s chain (AtStore (Get (key_of s chain)) (WasGot x)) c.get_finals.new.self c.get_finals.new.chain c.get_finals.result
    × Leads accepts s chain (AtStore (Get (key_of s chain)) (WasGot x)) c.get_finals.new.self c.get_finals.new.chain) is (got, step, goes, lead)
