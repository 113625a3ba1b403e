use Rattle.roster_bank.proofs.Rosters.{lawful_lists}
use Rattle.roster_bank.proofs.Counts.{counted_lists}
use Rattle.roster_bank.proofs.roster_bank.RosterBank.into_lists.Goals as goal

pub returns-clause-lawful : goal.returns-clause-lawful
returns-clause-lawful g c =
    lawful_lists g.G.Signer.Signer.key_of _ g.G.Checker.Checker.accepts g.K.RunName.accepts g.K.RunName.members c.into_cells.result.items c.self.inside.bank.cells c.lists_of.result
    c.lists_of.ensures.lists c.lists_of.ensures.lawful c.into_cells.ensures.cells c.self.invariant.0.members c.self.invariant.0.accepted

pub returns-clause-counted : goal.returns-clause-counted
returns-clause-counted g c =
    rw (← c.self.view_is) (counted_lists g.G.Signer.Signer.key_of _ g.K.RunName.members c.into_cells.result.items c.self.inside.bank.cells c.self.inside.bank.log c.lists_of.result
    c.lists_of.ensures.lists c.into_cells.ensures.cells c.self.invariant.0.members c.self.invariant.0.rising (c.into_cells.ensures.served c.self.invariant.0.fresh))
