use Rattle.std.proofs.Common.{◌<◌, refl, sym, subst}
use Rattle.port.specs.declared.key.Key.TheVariants as keys
use Rattle.chain_block.specs.Entry.{bare}
use Rattle.op_parts.specs.RefreshSound.{key_of as key_of_refresh}
use Rattle.op_entry.specs.declared.stage.Stage.{Stage as StageOfCode}
use Rattle.op_entry.specs.Ask.{ask_of}
use Rattle.op_entry.specs.Finding.{IsTakenFinding, IsFindingAt}
use Rattle.op_entry.specs.OwnRow.{get_of, get_below, put_of, key_of}
use Rattle.op_entry.specs.State.{stage_of, calls_at}
use Rattle.op_entry.specs.Sound.{LeadsOn}
use Rattle.op_entry.specs.Turns.{stage_after}
use Rattle.op_entry.proofs.LeadsToRow.{asked_leads, below_leads, put_leads}
use Rattle.op_entry.proofs.LeadsFromRow.{taken_leads, row_leads, settle_leads}
use Rattle.op_entry.proofs.Falling.{refresh_falls, below_falls, put_falls, got_falls, settle_falls}
use Rattle.op_entry.proofs.turn.next_stage.Goals as goal

pub returns-in-Refresh-clause-call : goal.returns-in-Refresh-clause-call
returns-in-Refresh-clause-call g c live =
    let call = c.refresh_chain.ensures.call in (
      get_of (key_of_refresh c.in-Refresh.refresh c.args.chain.now) call.0,
      (c.args.store.now, c.args.link.now, (refl, refl), (call.3, refl {a = c.args.link.now})),
      subst (λ (s : StageOfCode). LeadsOn (g.C.Checker.accepts c.args.checker.now) c.args.chain.now (stage_of s) (get_of (key_of_refresh c.in-Refresh.refresh c.args.chain.now) call.0) c.refresh_chain.new.chain (stage_after c.refresh_chain.result)) (sym c.in-Refresh.is)
          (λ ask from past at. asked_leads (g.C.Checker.accepts c.args.checker.now) (ask_of c.in-Refresh.wanted) ask from c.args.chain.now c.refresh_chain.new.chain c.in-Refresh.refresh call.1 call.0 past call.2 (stage_after c.refresh_chain.result) call.4 call.5 call.7 at),
    )

pub returns-in-Refresh-clause-falls : goal.returns-in-Refresh-clause-falls
returns-in-Refresh-clause-falls g c live =
    let call = c.refresh_chain.ensures.call in
    subst (λ (s : StageOfCode). calls_at c.refresh_chain.new.chain (stage_after c.refresh_chain.result) < calls_at c.args.chain.now (stage_of s)) (sym c.in-Refresh.is)
    (refresh_falls c.args.chain.now c.refresh_chain.new.chain (ask_of c.in-Refresh.wanted) c.in-Refresh.refresh call.1 call.2 (stage_after c.refresh_chain.result) call.6 call.7)

pub returns-in-GetBelow-clause-call : goal.returns-in-GetBelow-clause-call
returns-in-GetBelow-clause-call g c live =
    let call = c.get_below.ensures.call in (
      get_below (bare c.in-GetBelow.entry) call.0,
      (c.args.store.now, c.args.link.now, (refl, refl), (call.1, refl {a = c.args.link.now})),
      subst (λ (s : StageOfCode). LeadsOn (g.C.Checker.accepts c.args.checker.now) c.args.chain.now (stage_of s) (get_below (bare c.in-GetBelow.entry) call.0) c.args.chain.now (stage_after c.get_below.result)) (sym c.in-GetBelow.is)
          (λ ask from past at. below_leads (g.C.Checker.accepts c.args.checker.now) ask from c.args.chain.now (bare c.in-GetBelow.entry) call.0 past (stage_after c.get_below.result) call.2 at),
    )

pub returns-in-GetBelow-clause-falls : goal.returns-in-GetBelow-clause-falls
returns-in-GetBelow-clause-falls g c live =
    let call = c.get_below.ensures.call in
    subst (λ (s : StageOfCode). calls_at c.args.chain.now (stage_after c.get_below.result) < calls_at c.args.chain.now (stage_of s)) (sym c.in-GetBelow.is)
    (below_falls c.args.chain.now (bare c.in-GetBelow.entry) call.0 (stage_after c.get_below.result) call.2)

pub returns-in-GetBelow-clause-ready : goal.returns-in-GetBelow-clause-ready
returns-in-GetBelow-clause-ready g c = c.get_below.ensures.ready c.args.chain.now.configs

pub returns-in-Put-clause-call : goal.returns-in-Put-clause-call
returns-in-Put-clause-call g c live =
    let call = c.put_own.ensures.call in (
      put_of c.in-Put.row call.0,
      (c.args.store.now, c.args.link.now, (refl, refl), (call.1, refl {a = c.args.link.now})),
      subst (λ (s : StageOfCode). LeadsOn (g.C.Checker.accepts c.args.checker.now) c.args.chain.now (stage_of s) (put_of c.in-Put.row call.0) c.args.chain.now (stage_after c.put_own.result)) (sym c.in-Put.is)
          (λ ask from past at. put_leads (g.C.Checker.accepts c.args.checker.now) ask from c.args.chain.now c.in-Put.row past call.0 (stage_after c.put_own.result) call.2 at),
    )

pub returns-in-Put-clause-falls : goal.returns-in-Put-clause-falls
returns-in-Put-clause-falls g c live =
    let call = c.put_own.ensures.call in
    subst (λ (s : StageOfCode). calls_at c.args.chain.now (stage_after c.put_own.result) < calls_at c.args.chain.now (stage_of s)) (sym c.in-Put.is)
    (put_falls c.args.chain.now c.in-Put.row call.0 (stage_after c.put_own.result) call.2)

pub returns-in-GetTaken-clause-call : goal.returns-in-GetTaken-clause-call
returns-in-GetTaken-clause-call g c live =
    let call = c.get_taken.ensures.call in (
      get_of (key_of c.in-GetTaken.row) call.0,
      (c.args.store.now, c.args.link.now, (refl, refl), (call.1, refl {a = c.args.link.now})),
      subst (λ (s : StageOfCode). LeadsOn (g.C.Checker.accepts c.args.checker.now) c.args.chain.now (stage_of s) (get_of (key_of c.in-GetTaken.row) call.0) c.args.chain.now (stage_after c.get_taken.result)) (sym c.in-GetTaken.is)
          (λ ask from past at. taken_leads (g.C.Checker.accepts c.args.checker.now) from c.args.chain.now c.in-GetTaken.row call.0 past ask (stage_after c.get_taken.result) call.2 at),
    )

pub returns-in-GetTaken-clause-falls : goal.returns-in-GetTaken-clause-falls
returns-in-GetTaken-clause-falls g c live =
    let call = c.get_taken.ensures.call in
    subst (λ (s : StageOfCode). calls_at c.args.chain.now (stage_after c.get_taken.result) < calls_at c.args.chain.now (stage_of s)) (sym c.in-GetTaken.is)
    (got_falls (g.C.Checker.accepts c.args.checker.now) c.args.chain.now (IsTakenFinding c.in-GetTaken.row call.0) (stage_after c.get_taken.result) call.2)

pub returns-in-GetAt-clause-call : goal.returns-in-GetAt-clause-call
returns-in-GetAt-clause-call g c live =
    let call = c.get_at.ensures.call in (
      get_of (keys.Row c.in-GetAt.handle c.in-GetAt.height) call.0,
      (c.args.store.now, c.args.link.now, (refl, refl), (call.1, refl {a = c.args.link.now})),
      subst (λ (s : StageOfCode). LeadsOn (g.C.Checker.accepts c.args.checker.now) c.args.chain.now (stage_of s) (get_of (keys.Row c.in-GetAt.handle c.in-GetAt.height) call.0) c.args.chain.now (stage_after c.get_at.result)) (sym c.in-GetAt.is)
          (λ ask from past at. row_leads (g.C.Checker.accepts c.args.checker.now) from c.args.chain.now c.in-GetAt.handle c.in-GetAt.height call.0 past ask (stage_after c.get_at.result) call.2 at),
    )

pub returns-in-GetAt-clause-falls : goal.returns-in-GetAt-clause-falls
returns-in-GetAt-clause-falls g c live =
    let call = c.get_at.ensures.call in
    subst (λ (s : StageOfCode). calls_at c.args.chain.now (stage_after c.get_at.result) < calls_at c.args.chain.now (stage_of s)) (sym c.in-GetAt.is)
    (got_falls (g.C.Checker.accepts c.args.checker.now) c.args.chain.now (IsFindingAt c.in-GetAt.handle c.in-GetAt.height call.0) (stage_after c.get_at.result) call.2)

pub returns-in-Settle-clause-call : goal.returns-in-Settle-clause-call
returns-in-Settle-clause-call g c live =
    let call = c.settle_row.ensures.call in (
      call.0,
      call.3,
      subst (λ (s : StageOfCode). LeadsOn (g.C.Checker.accepts c.args.checker.now) c.args.chain.now (stage_of s) (call.0) c.args.chain.now (stage_after c.settle_row.result)) (sym c.in-Settle.is)
          (λ ask from past at. settle_leads (g.C.Checker.accepts c.args.checker.now) ask from c.args.chain.now c.in-Settle.found call.0 c.in-Settle.settle call.1 past call.2 (stage_after c.settle_row.result) call.4 call.6 at),
    )

pub returns-in-Settle-clause-falls : goal.returns-in-Settle-clause-falls
returns-in-Settle-clause-falls g c live =
    let call = c.settle_row.ensures.call in
    subst (λ (s : StageOfCode). calls_at c.args.chain.now (stage_after c.settle_row.result) < calls_at c.args.chain.now (stage_of s)) (sym c.in-Settle.is)
    (settle_falls c.args.chain.now c.in-Settle.found c.in-Settle.settle call.1 call.2 (stage_after c.settle_row.result) call.5 call.6)
