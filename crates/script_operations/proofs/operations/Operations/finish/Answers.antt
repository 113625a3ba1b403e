use Rattle.std.proofs.Common.{ap}
use Rattle.nim_base.specs.declared.text.Text.{Text}
use Rattle.endorser_cell.specs.CellBank.{bank_view}
use Rattle.script_operations.specs.Operations.{Begun}
use Rattle.script_operations.specs.Task.{HasDraw}
use Rattle.script_operations.proofs.Named.{one_finished, one_has, tasks_kept}
use Rattle.script_operations.proofs.operations.Operations.finish.Goals as goal

pub finish-requires : goal.finish-requires
finish-requires g c =
    one_has c.self.inside.operations.items c.self.inside.names c.self.inside.open_from c.args.self.now c.self.view_is c.in-Some.place c.index_mut.result.now c.in-Some.ensures.some.0 c.index_mut.ensures.value c.args.name.now c.in-Some.ensures.some.1
    (HasDraw c.args.acts.now.clients) c.requires

pub returns-in-Some-clause-tasks : goal.returns-in-Some-clause-tasks
returns-in-Some-clause-tasks g c =
    tasks_kept c.self.inside.operations.items c.self.inside.names c.self.inside.open_from c.args.self.now c.self.view_is c.in-Some.place c.index_mut.result.now c.in-Some.ensures.some.0 c.index_mut.ensures.value c.args.name.now c.in-Some.ensures.some.1
    c.finish.new.self (ap (λ (begun : Begun). begun.task) c.finish.ensures.closed)

pub returns-in-Some-clause-finished : goal.returns-in-Some-clause-finished
returns-in-Some-clause-finished g c =
    one_finished c.self.inside.operations.items c.self.inside.names c.self.inside.open_from c.args.self.now c.self.view_is c.in-Some.place c.index_mut.result.now c.in-Some.ensures.some.0 c.index_mut.ensures.value c.args.name.now c.in-Some.ensures.some.1
    g.G.Checker.Checker.accepts g.S.Store.view (bank_view g.G.Signer.Signer.key_of g.G.Signer.Signer.left_of g.G.Checker.Checker.accepts) g.K.RunName.accepts
    c.args.acts.now c.finish.new.acts c.args.coordinator.now c.finish.new.coordinator (λ (text : Text). text.bytes)
    c.finish.new.self c.finish.result c.in-Some.ensures.some.2 c.finish.ensures.closed c.finish.ensures.gives

pub returns-in-None-clause-stays : goal.returns-in-None-clause-stays
returns-in-None-clause-stays g c = c.clients_stay_on.ensures.same c.args.acts.now
