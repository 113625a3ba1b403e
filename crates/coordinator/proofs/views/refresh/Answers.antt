use Rattle.std.proofs.Common.{◌≡◌, true, Result, Ok, Err, refl, ap, ◌∙◌, subst}
use Rattle.nim_base.specs.declared.no_memory.NoMemory.{NoMemory}
use Rattle.op_parts.specs.declared.refresh_turn.RefreshProgress.{RefreshProgress}
use Rattle.op_parts.specs.RefreshState.{is_live}
use Rattle.coordinator.proofs.Refreshing.{Steps, ends_fresh, ends_refused, ends_lacking}
use Rattle.coordinator.proofs.views.refresh.Goals as goal

pub returns-in-Ok-Fresh : goal.returns-in-Ok-Fresh
returns-in-Ok-Fresh g c =
    let accepts = g.C.Checker.accepts c.args.checker.now in
    let loop = c.loop-refresh in
    let step = subst (λ (result : Result RefreshProgress NoMemory). is_live loop.refresh ≡ true → Steps accepts g.S.Store.view c.args.chain.now c.args.store.now loop.refresh loop.chain loop.store c.step.new.self c.step.new.chain c.step.new.store result) (c.in-Ok-Fresh.is ∙ ap (λ (progress : RefreshProgress). Ok progress) c.in-Ok-Fresh.field-0-is) c.step.ensures.call in
    ends_fresh accepts g.S.Store.view c.args.chain.now c.args.store.now loop.refresh c.step.new.self loop.chain c.step.new.chain loop.store c.step.new.store loop.invariant tt step

pub returns-in-Ok-Refused : goal.returns-in-Ok-Refused
returns-in-Ok-Refused g c =
    let accepts = g.C.Checker.accepts c.args.checker.now in
    let loop = c.loop-refresh in
    let step = subst (λ (result : Result RefreshProgress NoMemory). is_live loop.refresh ≡ true → Steps accepts g.S.Store.view c.args.chain.now c.args.store.now loop.refresh loop.chain loop.store c.step.new.self c.step.new.chain c.step.new.store result) (c.in-Ok-Refused.is ∙ ap (λ (progress : RefreshProgress). Ok progress) c.in-Ok-Refused.field-0-is) c.step.ensures.call in
    ends_refused accepts g.S.Store.view c.args.chain.now c.args.store.now loop.refresh c.step.new.self loop.chain c.step.new.chain loop.store c.step.new.store loop.invariant c.in-Ok-Refused.refusal step

pub returns-in-Err : goal.returns-in-Err
returns-in-Err g c =
    let accepts = g.C.Checker.accepts c.args.checker.now in
    let loop = c.loop-refresh in
    let step = subst (λ (result : Result RefreshProgress NoMemory). is_live loop.refresh ≡ true → Steps accepts g.S.Store.view c.args.chain.now c.args.store.now loop.refresh loop.chain loop.store c.step.new.self c.step.new.chain c.step.new.store result) (c.in-Err.is) c.step.ensures.call in
    ends_lacking accepts g.S.Store.view c.args.chain.now c.args.store.now loop.refresh c.step.new.self loop.chain c.step.new.chain loop.store c.step.new.store loop.invariant c.in-Err.field-0 step
