use Rattle.std.proofs.Common.{◌≡◌, ◌-◌, ◌++◌, take, drop, map}
use Rattle.run_record.specs.declared.actor.Actor.TheVariants.{Endorser}
use Rattle.run_order.proofs.order.push_calls.Given as goal

abbrev pub invariant-loop-call : goal.invariant-loop-call
invariant-loop-call l =
    l.order.items ++ map Endorser (take (l.end - l.call) (drop l.call l.places))
    ≡ l.fn.order.items ++ map Endorser (take (l.end - l.from) (drop l.from l.places))
