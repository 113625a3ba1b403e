use Rattle.endorser_cell.specs.CellBank.{bank_view}
use Rattle.script_operations.specs.Task.{HasDraw}
use Rattle.script_operations.proofs.Named.{one_has, one_retried}
use Rattle.script_operations.proofs.operations.Operations.retry.Goals as goal

pub retry-requires : goal.retry-requires
retry-requires g c =
    one_has c.self.inside.operations.items c.self.inside.names c.self.inside.open_from c.args.self.now c.self.view_is c.in-Some.place c.index.result.now c.in-Some.ensures.some.0 c.index.ensures c.args.name.now c.in-Some.ensures.some.1
    (HasDraw c.args.acts.now.clients) c.requires

pub returns-in_default-clause-stays : goal.returns-in_default-clause-stays
returns-in_default-clause-stays g c = c.clients_stay_on.ensures.same c.args.acts.now

pub returns-clause-retried : goal.returns-clause-retried
returns-clause-retried g c =
    one_retried c.self.inside.operations.items c.self.inside.names c.self.inside.open_from c.args.self.now c.self.view_is c.in-Some.place c.index.result.now c.in-Some.ensures.some.0 c.index.ensures c.args.name.now c.in-Some.ensures.some.1
    g.G.Checker.Checker.accepts g.S.Store.view (bank_view g.G.Signer.Signer.key_of g.G.Signer.Signer.left_of g.G.Checker.Checker.accepts) g.K.RunName.accepts
    c.args.acts.now c.retry.new.acts c.args.coordinator.now c.retry.new.coordinator c.in_ok-line.line.bytes c.in_ok-line.ensures.asks
