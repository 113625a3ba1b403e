use Rattle.std.proofs.Common.{rules, ◌∙◌}
use Rattle.run_order.proofs.Orders.{calls_end, calls_step}
use Rattle.run_order.proofs.order.push_calls.Goals as goal

pub loop-call-preserved : goal.loop-call-preserved
loop-call-preserved c =
    calls_step c.args.places.now c.loop-call.call c.min-end.result _ c.loop-call.order.items c.push.new.self.items (search rules) (search rules) c.in_ok-push.ensures.items
    ∙ c.loop-call.invariant

pub returns : goal.returns
returns c =
    calls_end c.args.places.now c.args.from c.args.upto c.loop-call.call c.min-end.result c.args.order.now.items c.loop-call.order.items (search rules) (search rules)
    c.loop-call.invariant
