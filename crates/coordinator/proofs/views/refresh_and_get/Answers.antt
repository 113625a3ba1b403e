use Rattle.std.proofs.Common.{◌≡◌, ℕ, List, max, subst, rules}
use Rattle.std.proofs.lemmas.Result.{err_from_is_err_and}
use Rattle.port.specs.Cause.{cause_of}
use Rattle.port.specs.View.{ViewRow}
use Rattle.coordinator.specs.ViewsRun.{HasGot, rows_answer}
use Rattle.coordinator.proofs.Viewing.{refresh_refused, stopped, got}
use Rattle.coordinator.proofs.views.refresh_and_get.Goals as goal

pub returns-in_err-refresh : goal.returns-in_err-refresh
returns-in_err-refresh g c =
    let accepts = g.C.Checker.accepts c.args.checker.now in
    let was = c.in_err-refresh.ensures in
    let p = err_from_is_err_and c.from_residual.result c.from_residual.ensures.1 in
    rw (p.1, p.2)
    (refresh_refused c.refreshes_grow.ensures accepts g.S.Store.view c.args.from c.args.chain.now c.refresh.new.chain c.args.store.now c.refresh.new.store (cause_of c.in_err-refresh.field-0.0) was.0 was.1 was.2)

pub returns-in_default : goal.returns-in_default
returns-in_default g c =
    let accepts = g.C.Checker.accepts c.args.checker.now in
    let fresh = c.in_ok-refresh.ensures in
    stopped c.refreshes_grow.ensures accepts g.S.Store.view c.args.from c.args.chain.now c.refresh.new.chain c.args.store.now c.refresh.new.store fresh.0 fresh.1 fresh.2

pub returns : goal.returns
returns g c =
    let accepts = g.C.Checker.accepts c.args.checker.now in
    let fresh = c.in_ok-refresh.ensures in
    let chain = c.refresh.new.chain in
    let answer = rows_answer c.get_rows.result in
    let first : c.max.result ≡ max c.args.from 1 = search rules in
    let by_first = subst (λ (n : ℕ). HasGot accepts g.S.Store.view chain n c.in-Ok.below.items c.refresh.new.store c.get_rows.new.store answer) first c.get_rows.ensures in
    let has = subst (λ (below : List ViewRow). HasGot accepts g.S.Store.view chain (max c.args.from 1) below c.refresh.new.store c.get_rows.new.store answer) c.in-Ok.ensures by_first in
    got c.refreshes_grow.ensures accepts g.S.Store.view c.args.from c.args.chain.now chain c.args.store.now c.refresh.new.store fresh.0 fresh.1 fresh.2 c.get_rows.new.store answer has
