use Rattle.std.proofs.Common.{refl, subst, rules}
use Rattle.port.specs.Call.{call_of}
use Rattle.port.specs.Heard.{heard_of}
use Rattle.port.specs.Link.{LinkStep}
use Rattle.endorser_cell.specs.CellBank.{CellBank, bank_view}
use Rattle.endorser_cell.proofs.Banks.{link_served}
use Rattle.endorser_cell.proofs.LinkSteps.{link_step}
use Rattle.endorser_cell.proofs.cell_bank.CellBankLink.call.Goals as goal

pub invariant_of-self : goal.invariant_of-self
invariant_of-self g c fresh =
    link_served g.G.Signer.Signer.key_of g.G.Signer.Signer.left_of g.G.Signer.Signer.size_of g.G.Signer.Signer.signs g.G.Scheme.fits
    c.self.inside.cells.items c.ask_id.new.cells.items c.self.inside.log.items c.ask_id.new.log.items c.self.inside.calls c.args.id (call_of c.args.call.now) (heard_of c.ask_id.result) c.ask_id.ensures (c.self.invariant fresh)

pub returns-clause-step : goal.returns-clause-step
returns-clause-step g c =
    let old : CellBank g.row.G-Signer.Denot g.row.G-Checker.Denot =
    record { cells = c.self.inside.cells.items; log = c.self.inside.log.items; calls = c.self.inside.calls; fresh = c.self.inside.fresh } in
    let new : CellBank g.row.G-Signer.Denot g.row.G-Checker.Denot =
    record { cells = c.ask_id.new.cells.items; log = c.ask_id.new.log.items; calls = c.saturating_add-self-inside.result; fresh = c.self.inside.fresh } in
    subst (λ (before : CellBank g.row.G-Signer.Denot g.row.G-Checker.Denot).
    LinkStep (bank_view g.G.Signer.Signer.key_of g.G.Signer.Signer.left_of g.G.Checker.Checker.accepts) before new c.args.id (call_of c.args.call.now) (heard_of c.ask_id.result)) c.self.view_is
    (link_step g.G.Signer.Signer.key_of g.G.Signer.Signer.left_of g.G.Signer.Signer.size_of g.G.Signer.Signer.signs g.G.Scheme.fits g.G.Checker.Checker.accepts
    (λ signer after checker bytes sig fits signed. (g.met.G.Scheme.accepted _ _ _ _ _ fits signed).0)
    old new c.args.id (call_of c.args.call.now) (heard_of c.ask_id.result) (search rules) refl c.ask_id.ensures)
