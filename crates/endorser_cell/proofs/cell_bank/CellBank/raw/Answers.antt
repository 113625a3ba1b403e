use Rattle.std.proofs.Common.{◌≡◌, ℕ, refl, subst}
use Rattle.port.specs.Call.{call_of}
use Rattle.endorser_cell.specs.CellBank.{CellBank, KeepsCalls, IsServedRaw, IsRawFaithful, due_of}
use Rattle.endorser_cell.proofs.Banks.{raw_served}
use Rattle.endorser_cell.proofs.RawCalls.{raw_keeps, raw_due, raw_serves, raw_faithful}
use Rattle.endorser_cell.proofs.cell_bank.CellBank.raw.Goals as goal

pub invariant_of-self : goal.invariant_of-self
invariant_of-self g c fresh =
    raw_served g.G.Signer.Signer.key_of g.G.Signer.Signer.left_of g.G.Signer.Signer.size_of g.G.Signer.Signer.signs g.G.Scheme.fits
    c.self.inside.cells.items c.ask_raw.new.cells.items c.self.inside.log.items c.ask_raw.new.log.items c.args.id (call_of c.args.call.now) c.ask_raw.result c.ask_raw.ensures (c.self.invariant fresh)

pub returns-clause-keeps : goal.returns-clause-keeps
returns-clause-keeps g c =
    let old : CellBank g.row.G-Signer.Denot g.row.G-Checker.Denot =
    record { cells = c.self.inside.cells.items; log = c.self.inside.log.items; calls = c.self.inside.calls; fresh = c.self.inside.fresh } in
    let new : CellBank g.row.G-Signer.Denot g.row.G-Checker.Denot = record old { cells = c.ask_raw.new.cells.items; log = c.ask_raw.new.log.items } in
    subst (λ (before : CellBank g.row.G-Signer.Denot g.row.G-Checker.Denot). KeepsCalls before new) c.self.view_is
    (raw_keeps g.G.Signer.Signer.key_of g.G.Signer.Signer.left_of g.G.Signer.Signer.size_of g.G.Signer.Signer.signs g.G.Scheme.fits g.G.Checker.Checker.accepts
    (λ signer after checker bytes sig fits signed. (g.met.G.Scheme.accepted _ _ _ _ _ fits signed).0)
    old new c.args.id (call_of c.args.call.now) c.ask_raw.result refl refl c.ask_raw.ensures)

pub returns-clause-due : goal.returns-clause-due
returns-clause-due g c =
    let old : CellBank g.row.G-Signer.Denot g.row.G-Checker.Denot =
    record { cells = c.self.inside.cells.items; log = c.self.inside.log.items; calls = c.self.inside.calls; fresh = c.self.inside.fresh } in
    subst (λ (before : CellBank g.row.G-Signer.Denot g.row.G-Checker.Denot). (other : ℕ) → due_of c.ask_raw.new.cells.items other ≡ due_of before.cells other) c.self.view_is
    (raw_due g.G.Signer.Signer.key_of g.G.Signer.Signer.left_of g.G.Signer.Signer.size_of g.G.Signer.Signer.signs g.G.Scheme.fits g.G.Checker.Checker.accepts
    (λ signer after checker bytes sig fits signed. (g.met.G.Scheme.accepted _ _ _ _ _ fits signed).0)
    old.cells c.ask_raw.new.cells.items old.log c.ask_raw.new.log.items c.args.id (call_of c.args.call.now) c.ask_raw.result c.ask_raw.ensures)

pub returns-clause-served : goal.returns-clause-served
returns-clause-served g c =
    let old : CellBank g.row.G-Signer.Denot g.row.G-Checker.Denot =
    record { cells = c.self.inside.cells.items; log = c.self.inside.log.items; calls = c.self.inside.calls; fresh = c.self.inside.fresh } in
    subst (λ (before : CellBank g.row.G-Signer.Denot g.row.G-Checker.Denot). IsServedRaw before.log c.ask_raw.new.log.items c.args.id (call_of c.args.call.now) c.ask_raw.result) c.self.view_is
    (raw_serves g.G.Signer.Signer.key_of g.G.Signer.Signer.left_of g.G.Signer.Signer.size_of g.G.Signer.Signer.signs g.G.Scheme.fits g.G.Checker.Checker.accepts
    (λ signer after checker bytes sig fits signed. (g.met.G.Scheme.accepted _ _ _ _ _ fits signed).0)
    old.cells c.ask_raw.new.cells.items old.log c.ask_raw.new.log.items c.args.id (call_of c.args.call.now) c.ask_raw.result c.ask_raw.ensures)

pub returns-clause-faithful : goal.returns-clause-faithful
returns-clause-faithful g c =
    let old : CellBank g.row.G-Signer.Denot g.row.G-Checker.Denot =
    record { cells = c.self.inside.cells.items; log = c.self.inside.log.items; calls = c.self.inside.calls; fresh = c.self.inside.fresh } in
    let new : CellBank g.row.G-Signer.Denot g.row.G-Checker.Denot = record old { cells = c.ask_raw.new.cells.items; log = c.ask_raw.new.log.items } in
    subst (λ (before : CellBank g.row.G-Signer.Denot g.row.G-Checker.Denot). IsRawFaithful g.G.Signer.Signer.key_of g.G.Signer.Signer.left_of g.G.Checker.Checker.accepts before new c.args.id (call_of c.args.call.now) c.ask_raw.result) c.self.view_is
    (raw_faithful g.G.Signer.Signer.key_of g.G.Signer.Signer.left_of g.G.Signer.Signer.size_of g.G.Signer.Signer.signs g.G.Scheme.fits g.G.Checker.Checker.accepts
    (λ signer after checker bytes sig fits signed. (g.met.G.Scheme.accepted _ _ _ _ _ fits signed).0)
    old new c.args.id (call_of c.args.call.now) c.ask_raw.result c.ask_raw.ensures)
