use Rattle.std.proofs.Common.{ap}
use Rattle.nim_base.specs.declared.text.Text.{Text}
use Rattle.endorser_cell.specs.CellBank.{bank_view}
use Rattle.script_operations.specs.declared.operation.Operation.TheVariants as kinds
use Rattle.script_operations.specs.Operations.{begun_of}
use Rattle.script_operations.proofs.Answering.{asked_anew}
use Rattle.script_operations.proofs.operation.Operation.retry.Goals as goal

pub returns-in-Height-clause-asks : goal.returns-in-Height-clause-asks
returns-in-Height-clause-asks g c =
    asked_anew (λ (text : Text). text.bytes) g.K.RunName.accepts c.args.name.now c.in-Height.operation.asked.label.bytes c.args.acts.now c.retry-in-Height.new.acts c.args.coordinator.now c.retry-in-Height.new.coordinator c.retry-in-Height.result
    g.G.Checker.Checker.accepts g.S.Store.view (bank_view g.G.Signer.Signer.key_of g.G.Signer.Signer.left_of g.G.Checker.Checker.accepts) c.args.coordinator.now
    (begun_of c.args.self.now) (begun_of (kinds.Height c.in-Height.operation)) (ap begun_of c.in-Height.is) (c.retry-in-Height.ensures.asks c.args.name.now)
