use Rattle.std.proofs.Common.{ap}
use Rattle.script_operations.specs.Operations.{Begun}
use Rattle.script_operations.proofs.Named.{one_closed, one_stays_closed, tasks_kept}
use Rattle.script_operations.proofs.operations.Operations.close.Goals as goal

pub returns-in-Some-clause-tasks : goal.returns-in-Some-clause-tasks
returns-in-Some-clause-tasks c =
    tasks_kept c.self.inside.operations.items c.self.inside.names c.self.inside.open_from c.args.self.now c.self.view_is c.in-Some.place c.index_mut.result.now c.in-Some.ensures.some.0 c.index_mut.ensures.value c.args.name.now c.in-Some.ensures.some.1
    c.close.new.self (ap (λ (begun : Begun). begun.task) c.close.ensures.closed)

pub returns-in-Some-clause-closed : goal.returns-in-Some-clause-closed
returns-in-Some-clause-closed c =
    one_closed c.self.inside.operations.items c.self.inside.names c.self.inside.open_from c.args.self.now c.self.view_is c.in-Some.place c.index_mut.result.now c.in-Some.ensures.some.0 c.index_mut.ensures.value c.args.name.now c.in-Some.ensures.some.1
    c.close.new.self c.close.ensures.closed

pub returns-in-Some-clause-none : goal.returns-in-Some-clause-none
returns-in-Some-clause-none c =
    one_stays_closed c.self.inside.operations.items c.self.inside.names c.self.inside.open_from c.args.self.now c.self.view_is c.in-Some.place c.index_mut.result.now c.in-Some.ensures.some.0 c.index_mut.ensures.value c.args.name.now c.in-Some.ensures.some.1
    c.close.new.self c.close.ensures.closed c.in-Some.ensures.some.2
