use Rattle.std.proofs.Common.{◌≡◌, ◌++◌, drop, map}
use Rattle.run_record.specs.declared.actor.Actor.TheVariants.{Endorser}
use Rattle.run_order.specs.Order.{order_from}
use Rattle.run_order.proofs.order.order_of.Given as goal

abbrev pub invariant-loop-turn : goal.invariant-loop-turn
invariant-loop-turn g l =
    l.order.items ++ order_from (map Endorser) l.places.items l.next (drop l.turn-index l.turns) ≡ order_from (map Endorser) l.places.items 0 l.turns
