use Rattle.std.proofs.Common.{◌≡◌, map, sym, ◌∙◌, arith}
use Rattle.view_ledger.specs.Kept.{config_of}
use Rattle.view_ledger.proofs.KeptViews.{step_hit, step_miss, has_tail, none_below}
use Rattle.view_ledger.proofs.kept.find_view.Goals as goal

pub returns-then-eq-clause-found : goal.returns-then-eq-clause-found
returns-then-eq-clause-found c =
    sym (step_hit c.args.views.now c.requires c.loop-number.number c.index-views-number.result c.loop-number-test.true c.loop-number.invariant.within c.args.view.now (sym c.eq.ensures ∙ c.if-eq.true))
    ∙ c.loop-number.invariant.above

pub returns-then-eq-clause-view : goal.returns-then-eq-clause-view
returns-then-eq-clause-view c =
    has_tail c.args.views.now c.requires c.loop-number.number c.index-views-number.result c.loop-number-test.true c.loop-number.invariant.within c.args.view.now (sym c.eq.ensures ∙ c.if-eq.true)

pub loop-number-preserved : goal.loop-number-preserved
loop-number-preserved c = record {
  within = omega (arith, c.loop-number.invariant.within);
  above =
      sym (step_miss c.args.views.now c.requires c.loop-number.number c.index-views-number.result c.loop-number-test.true c.loop-number.invariant.within c.args.view.now (sym c.eq.ensures ∙ c.if-eq.false))
      ∙ c.loop-number.invariant.above;
}

pub returns-clause-found : goal.returns-clause-found
returns-clause-found c =
    let none : c.loop-number.number ≡ 0 = omega arith in
    sym (none_below (map config_of c.args.views.now) c.args.view.now c.loop-number.number none) ∙ c.loop-number.invariant.above
