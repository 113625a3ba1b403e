use Rattle.std.proofs.Common.{rules, ◌∙◌}
use Rattle.run_order.proofs.Orders.{lines_step}
use Rattle.run_order.proofs.order.push_lines.Goals as goal

pub loop-preserved : goal.loop-preserved
loop-preserved c =
    lines_step c.args.client c.loop.counter c.args.count c.loop.order.items c.push.new.self.items (search rules) c.in_ok-push.ensures.items
    ∙ c.loop.invariant
