use Rattle.nim_base.specs.declared.text.Text.{Text}
use Rattle.endorser_cell.specs.CellBank.{bank_view}
use Rattle.script_operations.specs.Task.{HasDraw}
use Rattle.script_operations.proofs.Named.{one_given, one_has, tasks_kept}
use Rattle.script_operations.proofs.operations.Operations.give.Goals as goal

pub give-requires : goal.give-requires
give-requires g c =
    one_has c.self.inside.operations.items c.self.inside.names c.self.inside.open_from c.args.self.now c.self.view_is c.in-Some.place c.index_mut.result.now c.in-Some.ensures.some.0 c.index_mut.ensures.value c.args.name.now c.in-Some.ensures.some.1
    (HasDraw c.args.acts.now.clients) c.requires

pub returns-in-Some-clause-tasks : goal.returns-in-Some-clause-tasks
returns-in-Some-clause-tasks g c =
    tasks_kept c.self.inside.operations.items c.self.inside.names c.self.inside.open_from c.args.self.now c.self.view_is c.in-Some.place c.index_mut.result.now c.in-Some.ensures.some.0 c.index_mut.ensures.value c.args.name.now c.in-Some.ensures.some.1
    c.give.new.self c.give.ensures.task

pub returns-in-Some-clause-given : goal.returns-in-Some-clause-given
returns-in-Some-clause-given g c =
    one_given c.self.inside.operations.items c.self.inside.names c.self.inside.open_from c.args.self.now c.self.view_is c.in-Some.place c.index_mut.result.now c.in-Some.ensures.some.0 c.index_mut.ensures.value c.args.name.now c.in-Some.ensures.some.1
    g.G.Checker.Checker.accepts g.S.Store.view (bank_view g.G.Signer.Signer.key_of g.G.Signer.Signer.left_of g.G.Checker.Checker.accepts) g.K.RunName.accepts
    c.args.acts.now c.give.new.acts c.args.coordinator.now c.give.new.coordinator (λ (text : Text). text.bytes)
    c.give.ensures.learned c.give.ensures.turns c.args.reply c.give.new.self c.give.result c.in-Some.ensures.some.2 c.give.ensures.given

pub returns-in-None-clause-stays : goal.returns-in-None-clause-stays
returns-in-None-clause-stays g c = c.clients_stay_on.ensures.same c.args.acts.now
