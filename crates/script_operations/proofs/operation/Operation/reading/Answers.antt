use Rattle.std.proofs.Common.{ap}
use Rattle.script_operations.specs.declared.operation.Operation.TheVariants as kinds
use Rattle.script_operations.specs.declared.reading.Reading.{Reading}
use Rattle.script_operations.specs.Operations.{begun_of}
use Rattle.script_operations.specs.Task.{Newest}
use Rattle.script_operations.proofs.Named.{newest_reads}
use Rattle.script_operations.proofs.operation.Operation.reading.Goals as goal

pub returns-in-Newest-clause-some : goal.returns-in-Newest-clause-some
returns-in-Newest-clause-some c =
    newest_reads (λ (reading : Reading) draw. Newest reading.client draw reading.handle reading.nonce) c.reading.result c.in-Newest.operation.asked.draw
    (begun_of c.args.self.now) (begun_of (kinds.Newest c.in-Newest.operation)) (ap begun_of c.in-Newest.is) c.reading.ensures.some
