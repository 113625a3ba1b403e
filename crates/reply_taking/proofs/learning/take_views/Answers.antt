use Rattle.reply_taking.proofs.Growing.{grows_again, grows_same, views_again, views_same}
use Rattle.reply_taking.proofs.learning.take_views.Goals as goal

pub loop-row-init : goal.loop-row-init
loop-row-init g c = (grows_same c.args.pass.now, views_same c.args.pass.now, λ draw answered. answered)

pub loop-row-preserved : goal.loop-row-preserved
loop-row-preserved g c = (
  grows_again c.args.pass.now c.loop-row.pass c.take_view.new.pass c.loop-row.invariant.0 c.take_view.ensures.grows,
  views_again c.args.pass.now c.loop-row.pass c.take_view.new.pass c.loop-row.invariant.1 c.take_view.ensures.views,
  λ draw answered. c.loop-row.invariant.2 draw (c.take_view.ensures.open draw answered),
)

pub returns-in_err-take_view-clause-views : goal.returns-in_err-take_view-clause-views
returns-in_err-take_view-clause-views g c =
    views_again c.args.pass.now c.loop-row.pass c.take_view.new.pass c.loop-row.invariant.1 c.take_view.ensures.views
