use Rattle.std.proofs.Common.{◌≡◌, sym, ap, subst}
use Rattle.std.specs.Prelude.{Result, Ok}
use Rattle.statement.specs.Config.{IsConfig}
use Rattle.nim_base.specs.declared.no_memory.NoMemory.{NoMemory}
use Rattle.port.specs.declared.store_answers.Got.{Got}
use Rattle.port.specs.Store.{StoreStep, Get, WasGot}
use Rattle.port.specs.Trace.{AtStore}
use Rattle.view_ledger.specs.Views.{ViewChain, newest_config}
use Rattle.op_parts.specs.declared.refresh_turn.RefreshProgress.{RefreshProgress}
use Rattle.op_parts.specs.declared.refresh_turn.RefreshProgress.TheVariants.{Fresh}
use Rattle.op_parts.specs.RefreshState.{RefreshState}
use Rattle.op_parts.specs.RefreshSound.{Goes, Leads, key_of}
use Rattle.op_latest.specs.LatestState.{State}
use Rattle.op_latest.specs.LatestSteps.{TakesRefresh}
use Rattle.op_latest.proofs.latest_op.LatestOp.refresh.Goals as goal

pub returns-clause-call : goal.returns-clause-call
returns-clause-call g c =
    let call = c.step-progress.ensures.call c.requires.live in
    let accepts = g.C.Checker.accepts c.args.checker.now in
    let got : Got = call.0 in
    let new = c.step-progress.new.self in
    let progress = c.step-progress.result in
    let chain = ap (λ (s : State). s.chain) c.self.view_is in
    let takes =
    subst (λ (s : State). TakesRefresh new progress (record s { chain = c.step-progress.new.chain }) c.take_refresh.new.self) c.self.view_is c.take_refresh.ensures.takes in
    let config =
    λ (fresh : progress ≡ Ok Fresh). subst (λ (ch : ViewChain). IsConfig (newest_config ch.configs)) c.take_refresh.ensures.same (c.take_refresh.ensures.config fresh) in
    subst (λ (after : ViewChain). (x : Got) × (n : RefreshState) × (p : Result RefreshProgress NoMemory)
    × StoreStep g.S.Store.view c.args.store.now c.step-progress.new.store (Get (key_of c.args.refresh c.args.self.now.chain)) (WasGot x)
    × Goes accepts c.args.refresh c.args.self.now.chain (AtStore (Get (key_of c.args.refresh c.args.self.now.chain)) (WasGot x)) n after p
    × Leads accepts c.args.refresh c.args.self.now.chain (AtStore (Get (key_of c.args.refresh c.args.self.now.chain)) (WasGot x)) n after
    × TakesRefresh n p (record c.args.self.now { chain = after }) c.take_refresh.new.self
    × (p ≡ Ok Fresh → IsConfig (newest_config after.configs))) (sym c.take_refresh.ensures.same)
    (subst (λ (before : ViewChain). (x : Got) × (n : RefreshState) × (p : Result RefreshProgress NoMemory)
    × StoreStep g.S.Store.view c.args.store.now c.step-progress.new.store (Get (key_of c.args.refresh before)) (WasGot x)
    × Goes accepts c.args.refresh before (AtStore (Get (key_of c.args.refresh before)) (WasGot x)) n c.step-progress.new.chain p
    × Leads accepts c.args.refresh before (AtStore (Get (key_of c.args.refresh before)) (WasGot x)) n c.step-progress.new.chain
    × TakesRefresh n p (record c.args.self.now { chain = c.step-progress.new.chain }) c.take_refresh.new.self
    × (p ≡ Ok Fresh → IsConfig (newest_config c.step-progress.new.chain.configs))) chain
    (got, new, progress, call.1, call.2, call.3, takes, config))
