use Rattle.reply_taking.proofs.Growing.{view_taken}
use Rattle.reply_taking.proofs.learning.take_view.Goals as goal

pub returns-in_default-clause-views : goal.returns-in_default-clause-views
returns-in_default-clause-views g c =
    view_taken c.args.pass.now c.take_view.new.self c.args.row.now c.take_view.result c.take_view.ensures.noted c.take_view.ensures.same

pub returns-in_default-2-clause-views : goal.returns-in_default-2-clause-views
returns-in_default-2-clause-views g c =
    view_taken c.args.pass.now c.take_view.new.self c.args.row.now c.take_view.result c.take_view.ensures.noted c.take_view.ensures.same
