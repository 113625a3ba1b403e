use Rattle.std.proofs.Common.{◌≡◌, ◌∙◌, ap, length, arith}
use Rattle.run_clients.specs.Places.{at}
use Rattle.run_clients.proofs.NamedClients.{grown_from, kept_as, kept_grown, place_grown}
use Rattle.run_clients.proofs.clients.Clients.add.Goals as goal

pub invariant_of-self-2 : goal.invariant_of-self-2
invariant_of-self-2 g c =
    let now = c.args.self.now in
    let place : c.len-place.result ≡ length c.self.inside.clients.items = omega (arith, c.len-place.ensures) in
    kept_grown (at c.self.inside.places) (at c.set.new.self) now c.push_reserved.new.self.items c.args.name.now c.in_ok-copy.copy.items c.args.pass c.len-place.result
    (kept_as (at c.self.inside.places) c.self.inside.clients.items now c.self.view_is c.self.invariant)
    (grown_from c.args.self.now c.self.inside.clients.items c.reserve.new.self.items c.push_reserved.new.self.items c.in_ok-copy.copy.items c.args.pass c.push_reserved.ensures.items c.reserve.ensures.items c.self.view_is)
    c.in_ok-copy.ensures.items
    (place ∙ ap length c.self.view_is)
    c.requires.new
    c.in_ok-set.ensures.set

pub returns-clause-places : goal.returns-clause-places
returns-clause-places g c =
    place_grown c.args.self.now c.push_reserved.new.self.items c.args.name.now c.in_ok-copy.copy.items c.args.pass
    (grown_from c.args.self.now c.self.inside.clients.items c.reserve.new.self.items c.push_reserved.new.self.items c.in_ok-copy.copy.items c.args.pass c.push_reserved.ensures.items c.reserve.ensures.items c.self.view_is)
    c.in_ok-copy.ensures.items c.requires.new
