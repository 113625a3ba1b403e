use Rattle.roster_bank.proofs.Places.{place_is}
use Rattle.roster_bank.proofs.roster_bank.RosterBank.place_of.Goals as goal

pub returns : goal.returns
returns g c = record {
  place = place_is g.G.Signer.Signer.key_of g.K.RunName.members c.self.inside.bank.cells c.args.id c.place_of.result
      c.self.invariant.0.members c.self.invariant.0.rising c.place_of.ensures.found c.place_of.ensures.none;
}
