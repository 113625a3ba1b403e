use Rattle.std.proofs.Common.{◌≡◌, ap, sym, subst}
use Rattle.std.specs.Prelude.{IfOk, MatchOption}
use Rattle.endorser_cell.specs.CellBank.{bank_view}
use Rattle.script_operations.specs.Giving.{GivesEnd}
use Rattle.script_operations.specs.Operations.{Begun, Closed, begun_of}
use Rattle.script_operations.proofs.operation.Operation.finish.Goals as goal

pub returns-in-Height-clause-gives : goal.returns-in-Height-clause-gives
returns-in-Height-clause-gives g c =
    subst
    (λ (begun : Begun). IfOk c.finish-in-Height.result (λ line. MatchOption line ((begun.progress ≡ Closed) × (c.finish-in-Height.new.acts ≡ c.args.acts.now) × (c.finish-in-Height.new.coordinator ≡ c.args.coordinator.now))
    (λ line. GivesEnd g.G.Checker.Checker.accepts g.S.Store.view (bank_view g.G.Signer.Signer.key_of g.G.Signer.Signer.left_of g.G.Checker.Checker.accepts) g.K.RunName.accepts c.args.name.now c.args.acts.now c.finish-in-Height.new.acts c.args.coordinator.now c.finish-in-Height.new.coordinator
    begun.task begun.label begun.progress line.bytes)))
    (ap begun_of (sym c.in-Height.is)) (c.finish-in-Height.ensures.gives c.args.name.now)
