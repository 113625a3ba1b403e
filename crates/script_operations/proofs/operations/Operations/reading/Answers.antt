use Rattle.script_operations.specs.declared.reading.Reading.{Reading}
use Rattle.script_operations.specs.Task.{Newest}
use Rattle.script_operations.proofs.Named.{one_reads, one_reads_not}
use Rattle.script_operations.proofs.operations.Operations.reading.Goals as goal

pub returns-in-Some-clause-some : goal.returns-in-Some-clause-some
returns-in-Some-clause-some c =
    one_reads c.self.inside.operations.items c.self.inside.names c.self.inside.open_from c.args.self.now c.self.view_is c.in-Some.place c.index.result.now c.in-Some.ensures.some.0 c.index.ensures c.args.name.now c.in-Some.ensures.some.1
    (λ (reading : Reading) draw. Newest reading.client draw reading.handle reading.nonce) c.reading.result c.in-Some.ensures.some.2 c.reading.ensures.some

pub returns-in-Some-clause-none : goal.returns-in-Some-clause-none
returns-in-Some-clause-none c =
    one_reads_not c.self.inside.operations.items c.self.inside.names c.self.inside.open_from c.args.self.now c.self.view_is c.in-Some.place c.index.result.now c.in-Some.ensures.some.0 c.index.ensures c.args.name.now c.in-Some.ensures.some.1
    c.reading.result c.reading.ensures.none
