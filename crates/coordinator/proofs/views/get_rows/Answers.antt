use Rattle.std.proofs.Common.{◌≡◌, ◌+◌, ◌<◌, ◌≤◌, List, [], ◌∷◌, ◌++◌, length, sym, subst, arith}
use Rattle.std.proofs.lemmas.Result.{err_from_is_err_and}
use Rattle.port.specs.Cause.{cause_of}
use Rattle.port.specs.View.{ViewRow}
use Rattle.coordinator.specs.ViewsRun.{IsGetting}
use Rattle.coordinator.proofs.Getting.{goes_on, refused}
use Rattle.coordinator.proofs.views.get_rows.Goals as goal

pub returns-in_err-row : goal.returns-in_err-row
returns-in_err-row g c =
    let accepts = g.C.Checker.accepts c.args.checker.now in
    let loop = c.loop-number in
    let known : loop.number < length c.args.chain.now.configs = omega (arith, c.number.ensures.number, c.loop-number-test.true) in
    let got = c.in_err-row.ensures in
    let p = err_from_is_err_and c.from_residual.result c.from_residual.ensures.1 in
    rw (p.1, p.2)
    (refused accepts g.S.Store.view c.args.chain.now c.args.first c.args.below.items c.args.store.now loop.number loop.rows.items got.0 (cause_of c.in_err-row.field-0.0) loop.store c.get_row.new.store loop.invariant known got.1 got.2)

pub loop-number-preserved : goal.loop-number-preserved
loop-number-preserved g c =
    let accepts = g.C.Checker.accepts c.args.checker.now in
    let loop = c.loop-number in
    let known : loop.number < length c.args.chain.now.configs = omega (arith, c.number.ensures.number, c.loop-number-test.true) in
    let got = c.in_ok-row.ensures in
    let longer : loop.rows.items ++ c.in_ok-row.row ∷ [] ≡ c.push.new.self.items = sym c.in-Ok.ensures.items in
    let next = goes_on accepts g.S.Store.view c.args.chain.now c.args.first c.args.below.items c.args.store.now loop.number loop.rows.items c.in_ok-row.row got.0 loop.store c.get_row.new.store loop.invariant known got.1 got.2 in
    subst (λ (rows : List ViewRow). IsGetting accepts g.S.Store.view c.args.chain.now c.args.first (loop.number + 1) c.args.below.items rows c.args.store.now c.get_row.new.store) longer next
