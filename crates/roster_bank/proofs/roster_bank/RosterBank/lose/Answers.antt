use Rattle.std.proofs.Common.{◌∙◌, ap, sym}
use Rattle.std.specs.Prelude.{List, [], length}
use Rattle.endorser_cell.specs.BankLine.{BankLine, served_by}
use Rattle.roster_bank.proofs.Rosters.{lose_roster}
use Rattle.roster_bank.proofs.roster_bank.RosterBank.lose.Goals as goal

pub invariant_of-self : goal.invariant_of-self
invariant_of-self g c = (
  lose_roster g.G.Signer.Signer.key_of g.G.Checker.Checker.accepts g.K.RunName.members g.K.RunName.accepts
      c.self.inside.bank c.lose.new.self c.args.id c.args.n c.args.which c.self.invariant.0 c.lose.ensures.keeps.fresh c.lose.ensures.log c.lose.ensures.cells,
  c.self.invariant.1 ∙ sym (ap (λ (log : List BankLine). length (served_by [] log)) c.lose.ensures.log),
)
