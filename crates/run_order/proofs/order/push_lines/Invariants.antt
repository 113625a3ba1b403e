use Rattle.std.proofs.Common.{◌≡◌, ◌-◌, ◌++◌}
use Rattle.run_order.specs.Order.{lines}
use Rattle.run_order.proofs.order.push_lines.Given as goal

abbrev pub invariant-loop : goal.invariant-loop
invariant-loop l = l.order.items ++ lines l.client (l.count - l.counter) ≡ l.fn.order.items ++ lines l.client l.count
