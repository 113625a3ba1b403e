use Rattle.std.proofs.Common.{ap}
use Rattle.script_operations.specs.Operations.{Begun}
use Rattle.script_operations.proofs.Named.{one_stepped, tasks_kept}
use Rattle.script_operations.proofs.operations.Operations.step.Goals as goal

pub returns-in-Some-clause-tasks : goal.returns-in-Some-clause-tasks
returns-in-Some-clause-tasks g c =
    tasks_kept c.self.inside.operations.items c.self.inside.names c.self.inside.open_from c.args.self.now c.self.view_is c.in-Some.place c.index_mut.result.now c.in-Some.ensures.some.0 c.index_mut.ensures.value c.args.name.now c.in-Some.ensures.some.1
    c.step.new.self (ap (λ (begun : Begun). begun.task) c.step.ensures.same)

pub returns-in-Some-clause-steps : goal.returns-in-Some-clause-steps
returns-in-Some-clause-steps g c =
    one_stepped c.self.inside.operations.items c.self.inside.names c.self.inside.open_from c.args.self.now c.self.view_is c.in-Some.place c.index_mut.result.now c.in-Some.ensures.some.0 c.index_mut.ensures.value c.args.name.now c.in-Some.ensures.some.1
    g.S.Store.view g.L.Link.view c.args.coordinator.now c.step.new.coordinator (g.C.Checker.accepts c.args.coordinator.now.checker) c.args.n c.step.new.self c.in-Some.ensures.some.2 c.step.ensures.same c.step.ensures.steps
