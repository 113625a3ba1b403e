use Rattle.std.proofs.Common.{◌≡◌, take}
use Rattle.statement.specs.Config.{ids}
use Rattle.roster_bank.specs.Places.{places_served}
use Rattle.run_order.proofs.order.places_served.Given as goal

abbrev pub invariant-loop-line : goal.invariant-loop-line
invariant-loop-line g l = l.places.items ≡ places_served (ids g.K.RunName.members) (take l.line l.bank.log)
