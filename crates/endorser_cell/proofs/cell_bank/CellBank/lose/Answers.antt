use Rattle.std.proofs.Common.{◌≡◌, ◌≢◌, ℕ, refl, subst}
use Rattle.endorser_cell.specs.CellBank.{CellBank, KeepsCalls, due_of, more_due}
use Rattle.endorser_cell.proofs.Banks.{more_served}
use Rattle.endorser_cell.proofs.Counts.{lose_keeps, lose_due, lose_others}
use Rattle.endorser_cell.proofs.cell_bank.CellBank.lose.Goals as goal

pub invariant_of-self : goal.invariant_of-self
invariant_of-self g c fresh = more_served c.self.inside.cells.items c.lose_more.new.cells.items c.self.inside.log.items c.args.id c.args.n c.args.which c.lose_more.ensures (c.self.invariant fresh)

pub returns-clause-keeps : goal.returns-clause-keeps
returns-clause-keeps g c =
    let old : CellBank g.row.G-Signer.Denot g.row.G-Checker.Denot =
    record { cells = c.self.inside.cells.items; log = c.self.inside.log.items; calls = c.self.inside.calls; fresh = c.self.inside.fresh } in
    let new : CellBank g.row.G-Signer.Denot g.row.G-Checker.Denot = record old { cells = c.lose_more.new.cells.items } in
    subst (λ (before : CellBank g.row.G-Signer.Denot g.row.G-Checker.Denot). KeepsCalls before new) c.self.view_is (lose_keeps old new c.args.id c.args.n c.args.which c.lose_more.ensures refl refl refl)

pub returns-clause-due : goal.returns-clause-due
returns-clause-due g c =
    let old : CellBank g.row.G-Signer.Denot g.row.G-Checker.Denot =
    record { cells = c.self.inside.cells.items; log = c.self.inside.log.items; calls = c.self.inside.calls; fresh = c.self.inside.fresh } in
    let new : CellBank g.row.G-Signer.Denot g.row.G-Checker.Denot = record old { cells = c.lose_more.new.cells.items } in
    subst (λ (before : CellBank g.row.G-Signer.Denot g.row.G-Checker.Denot). due_of new.cells c.args.id ≡ more_due before.cells c.args.id c.args.n) c.self.view_is (lose_due old new c.args.id c.args.n c.args.which c.lose_more.ensures)

pub returns-clause-others : goal.returns-clause-others
returns-clause-others g c =
    let old : CellBank g.row.G-Signer.Denot g.row.G-Checker.Denot =
    record { cells = c.self.inside.cells.items; log = c.self.inside.log.items; calls = c.self.inside.calls; fresh = c.self.inside.fresh } in
    let new : CellBank g.row.G-Signer.Denot g.row.G-Checker.Denot = record old { cells = c.lose_more.new.cells.items } in
    subst (λ (before : CellBank g.row.G-Signer.Denot g.row.G-Checker.Denot). (other : ℕ) → other ≢ c.args.id → due_of new.cells other ≡ due_of before.cells other) c.self.view_is
    (lose_others old new c.args.id c.args.n c.args.which c.lose_more.ensures)
